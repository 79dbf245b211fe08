use Rattle.std.proofs.Common.{ℕ}
use Rattle.std.specs.Prelude.{Option}
use Rattle.mips_text.specs.Blocks.{IsStart}
use Rattle.harden_lint.specs.StartTable.{Table}
use Rattle.harden_lint.specs.Outcome.{CleanTo}
use Rattle.harden_lint.proofs.pass.scan.Given as goal

abbrev pub invariant-loop-k : goal.invariant-loop-k
invariant-loop-k l = (entry : ℕ) (out : Option ℕ) → Table l.text (IsStart l.text entry) l.bits out → CleanTo l.text entry l.k
