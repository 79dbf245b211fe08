use Rattle.std.proofs.Common.{◌≤◌, length, drop}
use Rattle.c_calls.specs.Reached.{IsGraph}
use Rattle.c_calls.specs.Lists.{IsClosed}
use Rattle.c_calls.proofs.graph.call_graph.Given as goal

abbrev pub invariant-loop-left : goal.invariant-loop-left
invariant-loop-left l = record { within : l.left ≤ length l.items; closed : IsClosed l.lists; graph : IsGraph (drop l.left l.items) l.lists }

abbrev pub decreases-loop-left : goal.decreases-loop-left
decreases-loop-left l = l.left
