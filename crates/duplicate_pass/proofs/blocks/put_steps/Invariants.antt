use Rattle.std.proofs.Common.{◌≡◌, ◌++◌, drop}
use Rattle.std.specs.Prelude.{All, flat_map}
use Rattle.frame_plan.specs.Frames.{cell_address, global_cell, global_length}
use Rattle.double_law.specs.Emitted.{step_items}
use Rattle.duplicate_pass.specs.Emits.{IsNamed}
use Rattle.duplicate_pass.proofs.blocks.put_steps.Given as goal

abbrev pub invariant-loop-step : goal.invariant-loop-step
invariant-loop-step l = record {
  put : l.out ++ flat_map (step_items (λ g. cell_address (global_cell l.mid g)) (global_length l.mid) l.places) (drop l.step-index l.steps)
      ≡ l.initial.out ++ flat_map (step_items (λ g. cell_address (global_cell l.mid g)) (global_length l.mid) l.places) l.steps;
  named : All (λ step. IsNamed l.addresses step) (drop l.step-index l.steps);
}
