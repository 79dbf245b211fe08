use Rattle.std.proofs.Common.{◌≡◌, ◌+◌, ◌-◌, length}
use Rattle.c_calls.specs.Lists.{IsClosed}
use Rattle.c_calls.proofs.Searches.{Searching}
use Rattle.c_calls.proofs.search.search.Given as goal

abbrev pub invariant-loop-done : goal.invariant-loop-done
invariant-loop-done l = record { searching : Searching l.graph l.start l.stamp l.marks l.waiting l.done; closed : IsClosed l.graph; long : length l.marks ≡ length l.graph }

abbrev pub decreases-loop-done : goal.decreases-loop-done
decreases-loop-done l = 1 + length l.graph - l.done
