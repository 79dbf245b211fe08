use Rattle.std.proofs.Common.{take}
use Rattle.c_calls.specs.Search.{Marked}
use Rattle.c_calls.proofs.search.mark.Given as goal

abbrev pub invariant-loop-name : goal.invariant-loop-name
invariant-loop-name l = Marked (take l.name-index l.names) l.stamp l.fn.marks l.fn.waiting l.marks l.waiting
