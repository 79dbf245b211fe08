use Rattle.std.proofs.Common.{◌≡◌, ◌==◌, map, take}
use Rattle.c_calls.proofs.search.reached_from.Given as goal

abbrev pub invariant-loop-mark : goal.invariant-loop-mark
invariant-loop-mark l = l.reached.items ≡ map (λ m. m == 1) (take l.mark-index l.mark-items)
