use Rattle.std.proofs.Common.{ℕ, ◌<◌, get_or}
use Rattle.register_liveness.specs.Met.{Held, AreMet}
use Rattle.register_liveness.proofs.extents.widen_each.Given as goal

abbrev pub invariant-loop-v : goal.invariant-loop-v
invariant-loop-v l = record {
  met : AreMet l.function l.extents.items;
  kept : (v at : ℕ) → Held l.initial.extents.items v at → Held l.extents.items v at;
  held : (k : ℕ) → k < l.v-index → Held l.extents.items (get_or l.variables k 0) l.at;
}
