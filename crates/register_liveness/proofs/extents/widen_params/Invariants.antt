use Rattle.std.proofs.Common.{ℕ, ◌<◌}
use Rattle.register_liveness.specs.Met.{Held, AreMet}
use Rattle.register_liveness.proofs.extents.widen_params.Given as goal

abbrev pub invariant-loop-v : goal.invariant-loop-v
invariant-loop-v l = record {
  met : AreMet l.function l.extents.items;
  kept : (u at : ℕ) → Held l.initial.extents.items u at → Held l.extents.items u at;
  has : (u : ℕ) → u < l.v → Held l.extents.items u 0;
}
