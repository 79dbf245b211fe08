use Rattle.std.proofs.Common.{ℕ, ◌<◌, ◌≤◌, ◌-◌, get_or, length}
use Rattle.register_liveness.specs.Search.{IsSearch, IsSpread}
use Rattle.register_liveness.proofs.search.wanted_blocks.Given as goal

abbrev pub invariant-loop-block : goal.invariant-loop-block
invariant-loop-block l = IsSearch l.function l.v l.block l.marks.items l.found.items

abbrev pub invariant-loop-next : goal.invariant-loop-next
invariant-loop-next l = record {
  search : IsSearch l.function l.v (length l.function.blocks) l.marks.items l.found.items;
  within : l.next ≤ length l.found.items;
  so_far : (k : ℕ) → k < l.next → IsSpread l.function l.v l.marks.items (get_or l.found.items k 0);
}

abbrev pub decreases-loop-next : goal.decreases-loop-next
decreases-loop-next l = length l.function.blocks - l.next
