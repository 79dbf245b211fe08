use Rattle.std.proofs.Common.{ℕ}
use Rattle.third_lint.specs.Tables.{AreMarks}
use Rattle.third_lint.specs.Outcome.{CleanTo}
use Rattle.third_lint.proofs.pass.scan.Given as goal

abbrev pub invariant-loop-k : goal.invariant-loop-k
invariant-loop-k l = (entry : ℕ) → AreMarks l.text entry l.marks.starts.items l.marks.entered.items l.marks.after.items l.marks.twice.items → CleanTo l.text entry l.k
