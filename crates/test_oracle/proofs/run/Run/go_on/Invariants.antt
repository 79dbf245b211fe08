use Rattle.std.proofs.Common.{◌≡◌}
use Rattle.mid_blocks.specs.Run.{after}
use Rattle.test_oracle.specs.State.{state_of}
use Rattle.test_oracle.proofs.run.Run.go_on.Given as goal

abbrev pub decreases-loop-left : goal.decreases-loop-left
decreases-loop-left l = l.left

abbrev pub invariant-loop-left : goal.invariant-loop-left
invariant-loop-left l = after l.mid l.left (state_of l.self) ≡ after l.mid l.steps (state_of l.initial.self)
