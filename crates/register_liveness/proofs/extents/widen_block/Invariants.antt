use Rattle.std.proofs.Common.{ℕ, ◌+◌}
use Rattle.register_liveness.specs.Met.{Held, AreMet, HasLines}
use Rattle.register_liveness.proofs.extents.widen_block.Given as goal

abbrev pub invariant-loop-before : goal.invariant-loop-before
invariant-loop-before l = record {
  met : AreMet l.function l.extents.items;
  kept : (v at : ℕ) → Held l.initial.extents.items v at → Held l.extents.items v at;
  so_far : HasLines l.function l.extents.items (l.first + l.before);
}
