use Rattle.std.proofs.Common.{◌≡◌, ℕ, ◌<◌, get_or, length, false, true}
use Rattle.mid_blocks.specs.Lines.{lines, first_of}
use Rattle.mid_blocks.specs.Liveness.{IsWanted}
use Rattle.register_liveness.specs.Met.{Held, AreMet, HasLines, HasBlock, CallBefore}
use Rattle.register_liveness.proofs.extents.Lives.of.Given as goal

abbrev pub invariant-loop-v : goal.invariant-loop-v
invariant-loop-v l = record {
  met : AreMet l.function l.extents.items;
  params : (u : ℕ) → u < l.function.params → Held l.extents.items u 0;
  lines_met : HasLines l.function l.extents.items (length (lines l.function));
  blocks : (u b : ℕ) → u < l.v → b < length l.function.blocks → IsWanted l.function u (first_of l.function b) → HasBlock l.function l.extents.items u b;
  one_each : length l.across.items ≡ l.v;
  across : (u : ℕ) → get_or l.across.items u false ≡ true → CallBefore l.function u;
  not_across : (u : ℕ) → u < l.v → get_or l.across.items u false ≡ false → CallBefore l.function u → ⊥;
}
