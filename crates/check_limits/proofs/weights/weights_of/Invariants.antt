use Rattle.std.proofs.Common.{◌≤◌, length, drop}
use Rattle.check_limits.specs.Tables.{AreWeights}
use Rattle.check_limits.proofs.weights.weights_of.Given as goal

abbrev pub invariant-loop-left : goal.invariant-loop-left
invariant-loop-left l = record { within : l.left ≤ length l.items; weights : AreWeights (drop l.left l.items) l.weights }

abbrev pub decreases-loop-left : goal.decreases-loop-left
decreases-loop-left l = l.left
