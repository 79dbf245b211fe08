use Rattle.std.proofs.Common.{◌+◌, ◌-◌, length}
use Rattle.c_calls.specs.Lists.{Grown}
use Rattle.c_calls.proofs.graph.grow.Given as goal

abbrev pub invariant-loop-alloc : goal.invariant-loop-alloc
invariant-loop-alloc l = Grown l.fn.lists l.lists

abbrev pub decreases-loop-alloc : goal.decreases-loop-alloc
decreases-loop-alloc l = l.name + 1 - length l.lists
