use Rattle.std.proofs.Common.{ℕ, ◌<◌, get_or}
use Rattle.register_liveness.specs.Met.{Held, AreMet, HasBlock}
use Rattle.register_liveness.proofs.extents.widen_blocks.Given as goal

abbrev pub invariant-loop-b : goal.invariant-loop-b
invariant-loop-b l = record {
  met : AreMet l.function l.extents.items;
  kept : (u at : ℕ) → Held l.initial.extents.items u at → Held l.extents.items u at;
  has : (k : ℕ) → k < l.b-index → HasBlock l.function l.extents.items l.v (get_or l.blocks k 0);
}
