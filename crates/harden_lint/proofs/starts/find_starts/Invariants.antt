use Rattle.harden_lint.specs.StartTable.{Table, Below}
use Rattle.harden_lint.proofs.starts.find_starts.Given as goal

abbrev pub invariant-loop-k : goal.invariant-loop-k
invariant-loop-k l = Table l.text (Below l.text l.fn.entry l.k) l.bits.items l.outside
