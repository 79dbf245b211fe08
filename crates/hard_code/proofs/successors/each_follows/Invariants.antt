use Rattle.hard_code.specs.Tested.{Follow}
use Rattle.hard_code.proofs.successors.each_follows.Given as goal

abbrev pub invariant-loop-number : goal.invariant-loop-number
invariant-loop-number l = Follow l.blocks l.entries l.number
