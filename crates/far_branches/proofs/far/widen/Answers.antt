use Rattle.std.proofs.Common.{◌≡◌, ◌∙◌, ap, sym, subst, refl, ℕ, List, length, map, get_or}
use Rattle.std.specs.Prelude.{All, None, slice_index}
use Rattle.hard_items.specs.declared.code.HardBlock.{HardBlock}
use Rattle.hard_items.specs.declared.code.HardProgram.{HardProgram}
use Rattle.far_branches.specs.Widen.{far_blocks, far_place, widened}
use Rattle.far_branches.specs.Far.{AllThere, places_by}
use Rattle.far_branches.proofs.Built.{Building, building}
use Rattle.far_branches.proofs.far.widen.Goals as goal

pub far_places-requires : goal.far_places-requires
far_places-requires c = (building c.args.program c.as_slice-goals.result.now (places_by 0 c.as_slice-goals.result.now) c.requires.well_formed c.requires.few (c.as_slice-goals.ensures.value ∙ c.in_ok-fars.ensures) refl).few

pub put_blocks-requires-clause-there : goal.put_blocks-requires-clause-there
put_blocks-requires-clause-there c = subst (λ (z : List HardBlock). All (AllThere (length c.as_slice-places.result.now)) z) (sym c.as_slice.ensures) (building c.args.program c.as_slice-goals.result.now c.as_slice-places.result.now c.requires.well_formed c.requires.few (c.as_slice-goals.ensures.value ∙ c.in_ok-fars.ensures) (c.as_slice-places.ensures.value ∙ c.in_ok-all_places.ensures)).there

pub put_blocks-requires-clause-fars : goal.put_blocks-requires-clause-fars
put_blocks-requires-clause-fars c = (building c.args.program c.as_slice-goals.result.now c.as_slice-places.result.now c.requires.well_formed c.requires.few (c.as_slice-goals.ensures.value ∙ c.in_ok-fars.ensures) (c.as_slice-places.ensures.value ∙ c.in_ok-all_places.ensures)).fars_many ∙ ap (λ (z : List HardBlock). length z) (sym c.as_slice.ensures)

pub put_blocks-requires-clause-places : goal.put_blocks-requires-clause-places
put_blocks-requires-clause-places c = subst (λ (z : List HardBlock). length c.as_slice-places.result.now ≡ Rattle.std.specs.Prelude.◌+◌ (length z) 1) (sym c.as_slice.ensures) (building c.args.program c.as_slice-goals.result.now c.as_slice-places.result.now c.requires.well_formed c.requires.few (c.as_slice-goals.ensures.value ∙ c.in_ok-fars.ensures) (c.as_slice-places.ensures.value ∙ c.in_ok-all_places.ensures)).places_many

pub put_blocks-requires-clause-goals : goal.put_blocks-requires-clause-goals
put_blocks-requires-clause-goals c = (building c.args.program c.as_slice-goals.result.now c.as_slice-places.result.now c.requires.well_formed c.requires.few (c.as_slice-goals.ensures.value ∙ c.in_ok-fars.ensures) (c.as_slice-places.ensures.value ∙ c.in_ok-all_places.ensures)).goals

pub put_blocks-requires-clause-low : goal.put_blocks-requires-clause-low
put_blocks-requires-clause-low c = (building c.args.program c.as_slice-goals.result.now c.as_slice-places.result.now c.requires.well_formed c.requires.few (c.as_slice-goals.ensures.value ∙ c.in_ok-fars.ensures) (c.as_slice-places.ensures.value ∙ c.in_ok-all_places.ensures)).low

pub placed_blocks-requires : goal.placed_blocks-requires
placed_blocks-requires c = subst (λ (z : List ℕ). All (λ e. Rattle.std.specs.Prelude.◌<◌ e (length c.as_slice-places.result.now)) z) (sym c.as_slice-2.ensures) (building c.args.program c.as_slice-goals.result.now c.as_slice-places.result.now c.requires.well_formed c.requires.few (c.as_slice-goals.ensures.value ∙ c.in_ok-fars.ensures) (c.as_slice-places.ensures.value ∙ c.in_ok-all_places.ensures)).entries

pub returns : goal.returns
returns c =
    let h : Building c.args.program c.as_slice-goals.result.now c.as_slice-places.result.now = (building c.args.program c.as_slice-goals.result.now c.as_slice-places.result.now c.requires.well_formed c.requires.few (c.as_slice-goals.ensures.value ∙ c.in_ok-fars.ensures) (c.as_slice-places.ensures.value ∙ c.in_ok-all_places.ensures)) in
    let blocks : c.from_vec.result ≡ (widened c.args.program).blocks = c.from_vec.ensures ∙ (c.in_ok-blocks.ensures ∙ (ap (λ (z : List HardBlock). far_blocks (slice_index c.as_slice-places.result.now) (λ b. get_or c.as_slice-goals.result.now b None) 0 z) c.as_slice.ensures ∙ h.blocks_are)) in
    let entries : c.from_vec-2.result ≡ map (far_place c.args.program) c.args.program.entries = c.from_vec-2.ensures ∙ (c.in_ok-entries.ensures ∙ (ap (λ (z : List ℕ). map (slice_index c.as_slice-places.result.now) z) c.as_slice-2.ensures ∙ h.entries_are)) in
    let one : HardProgram → HardProgram = λ p. p in
    ap (λ (z : List HardBlock). one (record { blocks = z; entries = c.from_vec-2.result; initial = c.args.program.initial; memory_words = c.args.program.memory_words })) blocks ∙
    ap (λ (z : List ℕ). one (record { blocks = (widened c.args.program).blocks; entries = z; initial = c.args.program.initial; memory_words = c.args.program.memory_words })) entries
