use Rattle.std.proofs.Common.{ℕ, ◌<◌, [], get_or, length}
use Rattle.register_liveness.specs.Search.{IsSearch, GoesOn, IsPassed}
use Rattle.register_liveness.proofs.search.spread.Given as goal

abbrev pub invariant-loop-before : goal.invariant-loop-before
invariant-loop-before l = record {
  search : IsSearch l.function l.v (length l.function.blocks) l.marks.items l.found.items;
  goes_on : GoesOn l.initial.marks.items l.marks.items l.initial.found.items l.found.items;
  so_far : (k : ℕ) → k < l.before-index → IsPassed l.function l.v l.marks.items (get_or (get_or l.flow.leading.items l.block []) k 0);
}
