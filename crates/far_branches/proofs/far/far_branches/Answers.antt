use Rattle.std.proofs.Common.{◌≡◌, ◌∙◌, ap, sym, subst, refl, ℕ, List, length, map}
use Rattle.std.specs.Prelude.{IfOk, Option}
use Rattle.std.specs.List.{range_with_len}
use Rattle.hard_items.specs.declared.code.HardBlock.{HardBlock}
use Rattle.far_branches.specs.Widen.{function_start}
use Rattle.far_branches.specs.Far.{SumsAre}
use Rattle.far_branches.proofs.Counted.{starts_fit, fars_are, sums_moved, below_sums}
use Rattle.far_branches.proofs.far.far_branches.Goals as goal

pub sums_of-requires-clause-starts : goal.sums_of-requires-clause-starts
sums_of-requires-clause-starts c = (starts_fit c.as_slice.result.now _ c.as_slice-2.result.now (c.as_slice-2.ensures.value ∙ c.in_ok-starts.ensures)).many

pub sums_of-requires-clause-there : goal.sums_of-requires-clause-there
sums_of-requires-clause-there c = (starts_fit c.as_slice.result.now _ c.as_slice-2.result.now (c.as_slice-2.ensures.value ∙ c.in_ok-starts.ensures)).there

pub far_goals-requires-clause-starts : goal.far_goals-requires-clause-starts
far_goals-requires-clause-starts c = (starts_fit c.as_slice.result.now _ c.as_slice-3.result.now (c.as_slice-3.ensures.value ∙ c.in_ok-starts.ensures)).many

pub far_goals-requires-clause-there : goal.far_goals-requires-clause-there
far_goals-requires-clause-there c =
    let h : SumsAre c.as_slice-3.result.now c.as_slice-blocks.result.now c.as_slice-4.result.now = sums_moved (c.as_slice-2.ensures.value ∙ sym c.as_slice-3.ensures.value) (sym c.as_slice-4.ensures.value) c.in_ok-sums.ensures in
    below_sums h (starts_fit c.as_slice.result.now _ c.as_slice-3.result.now (c.as_slice-3.ensures.value ∙ c.in_ok-starts.ensures)).there

pub returns : goal.returns
returns c =
    let h : SumsAre c.as_slice-3.result.now c.as_slice-blocks.result.now c.as_slice-4.result.now = sums_moved (c.as_slice-2.ensures.value ∙ sym c.as_slice-3.ensures.value) (sym c.as_slice-4.ensures.value) c.in_ok-sums.ensures in
    let starts : c.as_slice-3.result.now ≡ map (function_start c.args.program.now.entries) (range_with_len 0 (length c.as_slice-blocks.result.now)) = c.as_slice-3.ensures.value ∙ (c.in_ok-starts.ensures ∙ ap (λ (z : List ℕ). map (function_start z) (range_with_len 0 (length c.as_slice-blocks.result.now))) c.as_slice.ensures) in
    subst (λ (z : List (Option ℕ)). IfOk c.far_goals.result (λ v. v.items ≡ z)) (fars_are c.args.program.now c.as_slice-blocks.result.now c.as_slice-3.result.now c.as_slice-4.result.now c.as_slice-blocks.ensures starts h) c.far_goals.ensures
