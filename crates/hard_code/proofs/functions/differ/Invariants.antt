use Rattle.hard_code.proofs.Entries.{DifferBelow}
use Rattle.hard_code.proofs.functions.differ.Given as goal

abbrev pub invariant-loop-at : goal.invariant-loop-at
invariant-loop-at l = DifferBelow l.entries l.at
