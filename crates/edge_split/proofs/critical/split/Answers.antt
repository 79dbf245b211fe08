use Rattle.std.proofs.Common.{◌≡◌, ◌∙◌, ap, sym, subst, refl, ℕ, ◌+◌, ◌<◌, List, length, map, get_or}
use Rattle.std.specs.Prelude.{All, slice_index}
use Rattle.hard_items.specs.declared.code.HardBlock.{HardBlock}
use Rattle.hard_items.specs.declared.code.HardProgram.{HardProgram}
use Rattle.edge_split.specs.declared.plan.Plan.TheVariants as made
use Rattle.edge_split.specs.Split.{split_blocks, split_place, smoothed}
use Rattle.edge_split.specs.Built.{plan_as, AllThere, places_by}
use Rattle.edge_split.proofs.Built.{Building, building}
use Rattle.edge_split.proofs.critical.split.Goals as goal

pub places_of-requires : goal.places_of-requires
places_of-requires c = (building c.args.program c.as_slice-plans.result.now (places_by 0 (map plan_as c.as_slice-plans.result.now)) c.requires.well_formed c.requires.few (ap (map plan_as) c.as_slice-plans.ensures.value ∙ c.in_ok-all.ensures) refl).few

pub put_blocks-requires-clause-there : goal.put_blocks-requires-clause-there
put_blocks-requires-clause-there c = subst (λ (z : List HardBlock). All (AllThere (length c.as_slice-places.result.now)) z) (sym c.as_slice.ensures) (building c.args.program c.as_slice-plans.result.now c.as_slice-places.result.now c.requires.well_formed c.requires.few (ap (map plan_as) c.as_slice-plans.ensures.value ∙ c.in_ok-all.ensures) (c.as_slice-places.ensures.value ∙ c.in_ok-all_places.ensures)).there

pub put_blocks-requires-clause-plans : goal.put_blocks-requires-clause-plans
put_blocks-requires-clause-plans c = (building c.args.program c.as_slice-plans.result.now c.as_slice-places.result.now c.requires.well_formed c.requires.few (ap (map plan_as) c.as_slice-plans.ensures.value ∙ c.in_ok-all.ensures) (c.as_slice-places.ensures.value ∙ c.in_ok-all_places.ensures)).plans_many ∙ ap (λ (z : List HardBlock). length z) (sym c.as_slice.ensures)

pub put_blocks-requires-clause-places : goal.put_blocks-requires-clause-places
put_blocks-requires-clause-places c = subst (λ (z : List HardBlock). length c.as_slice-places.result.now ≡ length z + 1) (sym c.as_slice.ensures) (building c.args.program c.as_slice-plans.result.now c.as_slice-places.result.now c.requires.well_formed c.requires.few (ap (map plan_as) c.as_slice-plans.ensures.value ∙ c.in_ok-all.ensures) (c.as_slice-places.ensures.value ∙ c.in_ok-all_places.ensures)).places_many

pub put_blocks-requires-clause-goals : goal.put_blocks-requires-clause-goals
put_blocks-requires-clause-goals c = (building c.args.program c.as_slice-plans.result.now c.as_slice-places.result.now c.requires.well_formed c.requires.few (ap (map plan_as) c.as_slice-plans.ensures.value ∙ c.in_ok-all.ensures) (c.as_slice-places.ensures.value ∙ c.in_ok-all_places.ensures)).goals_there

pub put_blocks-requires-clause-low : goal.put_blocks-requires-clause-low
put_blocks-requires-clause-low c = (building c.args.program c.as_slice-plans.result.now c.as_slice-places.result.now c.requires.well_formed c.requires.few (ap (map plan_as) c.as_slice-plans.ensures.value ∙ c.in_ok-all.ensures) (c.as_slice-places.ensures.value ∙ c.in_ok-all_places.ensures)).low

pub placed_blocks-requires : goal.placed_blocks-requires
placed_blocks-requires c = subst (λ (z : List ℕ). All (λ e. e < length c.as_slice-places.result.now) z) (sym c.as_slice-2.ensures) (building c.args.program c.as_slice-plans.result.now c.as_slice-places.result.now c.requires.well_formed c.requires.few (ap (map plan_as) c.as_slice-plans.ensures.value ∙ c.in_ok-all.ensures) (c.as_slice-places.ensures.value ∙ c.in_ok-all_places.ensures)).entries

pub returns : goal.returns
returns c =
    let h : Building c.args.program c.as_slice-plans.result.now c.as_slice-places.result.now = building c.args.program c.as_slice-plans.result.now c.as_slice-places.result.now c.requires.well_formed c.requires.few (ap (map plan_as) c.as_slice-plans.ensures.value ∙ c.in_ok-all.ensures) (c.as_slice-places.ensures.value ∙ c.in_ok-all_places.ensures) in
    let blocks : c.from_vec.result ≡ (smoothed c.args.program).blocks = c.from_vec.ensures ∙ (c.in_ok-blocks.ensures ∙ (ap (λ (z : List HardBlock). split_blocks (slice_index c.as_slice-places.result.now) (λ b. plan_as (get_or c.as_slice-plans.result.now b made.Keep)) 0 z) c.as_slice.ensures ∙ h.blocks_are)) in
    let entries : c.from_vec-2.result ≡ map (split_place c.args.program) c.args.program.entries = c.from_vec-2.ensures ∙ (c.in_ok-entries.ensures ∙ (ap (λ (z : List ℕ). map (slice_index c.as_slice-places.result.now) z) c.as_slice-2.ensures ∙ h.entries_are)) in
    let one : HardProgram → HardProgram = λ p. p in
    ap (λ (z : List HardBlock). one (record { blocks = z; entries = c.from_vec-2.result; initial = c.args.program.initial; memory_words = c.args.program.memory_words })) blocks ∙
    ap (λ (z : List ℕ). one (record { blocks = (smoothed c.args.program).blocks; entries = z; initial = c.args.program.initial; memory_words = c.args.program.memory_words })) entries
