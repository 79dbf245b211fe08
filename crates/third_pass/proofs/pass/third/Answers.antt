use Rattle.std.proofs.Common.{◌≡◌, ◌<◌, ◌≤◌, ◌+◌, ◌*◌, ◌^◌, ℕ, List, ap, sym, ◌∙◌, subst, map, sum, length, flat_map}
use Rattle.std.specs.Prelude.{All}
use Rattle.mips_isa.specs.declared.instr.Instr.{Instr}
use Rattle.mips_isa.specs.Table.{encoding, IsInRange}
use Rattle.mid_blocks.specs.declared.code.MidFunction.{MidFunction}
use Rattle.third_law.specs.Law.{RunsInThree}
use Rattle.third_law.specs.Program.{code_at, looked_up, starts_from, third_code}
use Rattle.third_pass.specs.Emits.{GlobalsKnown}
use Rattle.third_pass.specs.Ready.{spread, AllReady}
use Rattle.third_pass.proofs.Emitted.{for_ok}
use Rattle.third_pass.proofs.Facts.{all_few, globals_known, all_ready, count_few, firsts_are, places_enough}
use Rattle.third_pass.proofs.Joined.{high, low, few_words}
use Rattle.third_pass.proofs.pass.third.Goals as goal

pub first_blocks-requires : goal.first_blocks-requires
first_blocks-requires c = subst (λ (fs : List MidFunction). 2 + sum (map (λ (f : MidFunction). length f.blocks) fs) < 2 ^ 32) (sym c.as_slice.ensures) (all_few c.args.mid.now c.requires.valid)

pub spread-requires : goal.spread-requires
spread-requires c = subst (λ (l : List ℕ). All (λ a. (0x10010000 ≤ a) × (a < 2 ^ 30)) l) (sym (c.as_slice-2.ensures ∙ c.requires.plan.globals)) (high 0 c.args.mid.now.globals (fits (sum (map length c.args.mid.now.globals)) c.args.mid.now.chain_pairs c.requires.valid.store_fits))
  where
    fits : (s t : ℕ) → s + t ≤ 32768 → 0 + s ≤ 32768
    fits s t h = Rattle.third_pass.proofs.Joined.left s t h

pub code_at-requires-clause-globals : goal.code_at-requires-clause-globals
code_at-requires-clause-globals c = subst (GlobalsKnown c.args.mid.now) (sym (c.as_slice-3.ensures.value ∙ (c.in_ok-addresses.ensures ∙ ap spread c.as_slice-2.ensures))) (globals_known c.args.mid.now c.args.plan.now c.requires.valid c.requires.plan)

pub code_at-requires-clause-firsts : goal.code_at-requires-clause-firsts
code_at-requires-clause-firsts c = firsts_are c.args.mid.now c.as_slice.result.now c.as_slice-5.result.now c.as_slice.ensures (c.as_slice-5.ensures.value ∙ c.in_ok-firsts.ensures)

pub code_at-requires-clause-few : goal.code_at-requires-clause-few
code_at-requires-clause-few c = count_few c.args.mid.now c.requires.valid

pub code_at-requires-clause-ready : goal.code_at-requires-clause-ready
code_at-requires-clause-ready c = subst (λ (l : List ℕ). AllReady c.args.mid.now l c.args.places.now) (sym (c.as_slice-3.ensures.value ∙ (c.in_ok-addresses.ensures ∙ ap spread c.as_slice-2.ensures))) (all_ready c.args.mid.now c.args.plan.now c.args.places.now c.requires.valid c.requires.fit c.requires.plan)

pub code_at-requires-clause-places : goal.code_at-requires-clause-places
code_at-requires-clause-places c = places_enough c.args.mid.now c.args.places.now c.requires.fit

pub code_at-requires-2-clause-globals : goal.code_at-requires-2-clause-globals
code_at-requires-2-clause-globals c = subst (GlobalsKnown c.args.mid.now) (sym (c.as_slice-7.ensures.value ∙ (c.in_ok-addresses.ensures ∙ ap spread c.as_slice-2.ensures))) (globals_known c.args.mid.now c.args.plan.now c.requires.valid c.requires.plan)

pub code_at-requires-2-clause-firsts : goal.code_at-requires-2-clause-firsts
code_at-requires-2-clause-firsts c = firsts_are c.args.mid.now c.as_slice.result.now c.as_slice-9.result.now c.as_slice.ensures (c.as_slice-9.ensures.value ∙ c.in_ok-firsts.ensures)

pub code_at-requires-2-clause-few : goal.code_at-requires-2-clause-few
code_at-requires-2-clause-few c = count_few c.args.mid.now c.requires.valid

pub code_at-requires-2-clause-ready : goal.code_at-requires-2-clause-ready
code_at-requires-2-clause-ready c = subst (λ (l : List ℕ). AllReady c.args.mid.now l c.args.places.now) (sym (c.as_slice-7.ensures.value ∙ (c.in_ok-addresses.ensures ∙ ap spread c.as_slice-2.ensures))) (all_ready c.args.mid.now c.args.plan.now c.args.places.now c.requires.valid c.requires.fit c.requires.plan)

pub code_at-requires-2-clause-places : goal.code_at-requires-2-clause-places
code_at-requires-2-clause-places c = places_enough c.args.mid.now c.args.places.now c.requires.fit

pub starts_of-requires : goal.starts_of-requires
starts_of-requires c = subst (λ (l : List (List Instr)). 0x00400000 + 4 * sum (map length l) < 2 ^ 32) (sym (c.as_slice-6.ensures ∙ c.in_ok-counted.ensures))
    (few_words (sum (map length (code_at (looked_up c.as_slice-4.result.now) c.args.mid.now c.args.places.now))) (Rattle.mid_blocks.specs.Size.words c.args.mid.now) (c.few_in_three.ensures c.args.mid.now c.args.places.now (looked_up c.as_slice-4.result.now)) c.requires.few)

pub text_of-requires : goal.text_of-requires
text_of-requires c =
    subst (λ (l : List (List Instr)). All (All IsInRange) l) (sym (c.as_slice-10.ensures ∙ (c.in_ok-code.ensures ∙ ap (λ (l : List ℕ). code_at (looked_up l) c.args.mid.now c.args.places.now) (c.as_slice-8.ensures.value ∙ (c.in_ok-starts.ensures ∙
    ap (starts_from 0x00400000) (c.as_slice-6.ensures ∙ c.in_ok-counted.ensures))))))
    (c.in_range_in_three.ensures c.args.mid.now c.args.places.now (looked_up (starts_from 0x00400000 (code_at (looked_up c.as_slice-4.result.now) c.args.mid.now c.args.places.now)))
    (record { valid = c.requires.valid; shallow = c.requires.shallow; proper = c.requires.proper; has_words = c.requires.words; fit = c.requires.fit; few = c.requires.few })
    (λ b. low c.args.mid.now (code_at (looked_up c.as_slice-4.result.now) c.args.mid.now c.args.places.now) b (c.few_in_three.ensures c.args.mid.now c.args.places.now (looked_up c.as_slice-4.result.now)) c.requires.few))

pub returns : goal.returns
returns c = record {
  text = for_ok c.text_of.result (λ t. t.items ≡ map encoding (flat_map (λ k. k) c.as_slice-10.result.now)) (λ t. t.items ≡ map encoding (flat_map (λ k. k) (third_code c.args.mid.now c.args.places.now))) c.text_of.ensures
      (λ t e. e ∙ same);
  runs = for_ok c.text_of.result (λ t. t.items ≡ map encoding (flat_map (λ k. k) c.as_slice-10.result.now)) (λ t. RunsInThree c.args.mid.now t.items) c.text_of.ensures
      (λ t e. subst (λ (l : List ℕ). RunsInThree c.args.mid.now l) (sym (e ∙ same)) (c.run_in_three.ensures c.args.mid.now c.args.places.now
      (record { valid = c.requires.valid; shallow = c.requires.shallow; proper = c.requires.proper; has_words = c.requires.words; fit = c.requires.fit; few = c.requires.few })));
}
  where
    same : map encoding (flat_map (λ k. k) c.as_slice-10.result.now) ≡ map encoding (flat_map (λ k. k) (third_code c.args.mid.now c.args.places.now))
    same = ap (λ (l : List (List Instr)). map encoding (flat_map (λ k. k) l)) (c.as_slice-10.ensures ∙ (c.in_ok-code.ensures ∙ ap (λ (l : List ℕ). code_at (looked_up l) c.args.mid.now c.args.places.now) (c.as_slice-8.ensures.value ∙ (c.in_ok-starts.ensures ∙
        (ap (starts_from 0x00400000) (c.as_slice-6.ensures ∙ c.in_ok-counted.ensures) ∙ ap (λ (l : List ℕ). starts_from 0x00400000 (code_at (looked_up l) c.args.mid.now c.args.places.now)) (c.as_slice-4.ensures.value ∙ c.new-none.ensures.items))))))
