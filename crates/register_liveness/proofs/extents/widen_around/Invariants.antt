use Rattle.std.proofs.Common.{◌≡◌, ℕ, ◌+◌, ◌<◌, [], get_or, length, Some}
use Rattle.std.specs.Prelude.{slice_get}
use Rattle.mid_blocks.specs.declared.code.MidBlock.{MidBlock}
use Rattle.mid_blocks.specs.Lines.{first_of}
use Rattle.register_liveness.specs.Met.{Held, AreMet}
use Rattle.register_liveness.proofs.extents.widen_around.Given as goal

abbrev pub invariant-loop-before : goal.invariant-loop-before
invariant-loop-before l = record {
  met : AreMet l.function l.extents.items;
  kept : (u at : ℕ) → Held l.initial.extents.items u at → Held l.extents.items u at;
  lasts : (k : ℕ) (block : MidBlock) → k < l.before-index → slice_get l.function.blocks (get_or (get_or l.flow.leading.items l.b []) k 0) ≡ Some block → Held l.extents.items l.v (first_of l.function (get_or (get_or l.flow.leading.items l.b []) k 0) + length block.steps);
}
