use Rattle.harden_lint.specs.StartTable.{Below}
use Rattle.run_audit.specs.Turns.{Bits}
use Rattle.run_audit.proofs.starts.find_starts.Given as goal

abbrev pub invariant-loop-k : goal.invariant-loop-k
invariant-loop-k l = Bits l.text (Below l.text l.fn.entry l.k) l.bits.items
