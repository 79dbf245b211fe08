use Rattle.std.specs.Prelude.{take}
use Rattle.lint_words.specs.Decoded.{AreDecoded}
use Rattle.lint_words.proofs.table.decode_all.Given as goal

abbrev pub invariant-loop-k : goal.invariant-loop-k
invariant-loop-k l = AreDecoded (take l.k l.words) l.instrs.items
