use Rattle.hard_code.proofs.Behind.{Walked}
use Rattle.hard_code.proofs.successors.is_behind_calls.Given as goal

abbrev pub invariant-loop-number : goal.invariant-loop-number
invariant-loop-number l = Walked l.entries l.entry l.list l.blocks l.at l.number
