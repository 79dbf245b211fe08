use Rattle.std.proofs.Common.{◌≡◌, ℕ}
use Rattle.mid_blocks.specs.Lines.{first_of}
use Rattle.register_liveness.specs.Met.{Held, AreMet, HasLines}
use Rattle.register_liveness.proofs.extents.widen_lines.Given as goal

abbrev pub invariant-loop-block : goal.invariant-loop-block
invariant-loop-block l = record {
  at : l.number ≡ l.block-index;
  met : AreMet l.function l.extents.items;
  kept : (v at : ℕ) → Held l.initial.extents.items v at → Held l.extents.items v at;
  so_far : HasLines l.function l.extents.items (first_of l.function l.block-index);
}
