-- Each end of a block of a lowered program leads to blocks that are there.
use Rattle.std.proofs.Common.{◌≡◌, ℕ, ◌+◌, ◌<◌, ◌≤◌, Bool, true, false, List, [], ◌∷◌, ◌++◌, map, length, Option, Some, None, refl, sym, ap, ◌∙◌, subst, arith, option_map, if◌then◌else◌}
use Rattle.std.specs.Prelude.{slice_get}
use Rattle.std.proofs.lemmas.Bool.{false≢true}
use Rattle.std.proofs.lemmas.Option.{slice_get-map}
use Rattle.c_syntax.specs.declared.tree.Function.{Function}
use Rattle.c_syntax.specs.declared.tree.TopItem.{TopItem}
use Rattle.c_syntax.specs.declared.tree.Program.{Program}
use Rattle.c_syntax.specs.Costs.{function_weight}
use Rattle.c_meaning.specs.Meaning.{Names}
use Rattle.mid_blocks.specs.declared.code.MidEnd.{MidEnd}
use Rattle.mid_blocks.specs.declared.code.MidEnd.TheVariants.{Jump, Branch, Call, Return}
use Rattle.mid_blocks.specs.declared.code.MidBlock.{MidBlock}
use Rattle.mid_blocks.specs.declared.code.MidFunction.{MidFunction}
use Rattle.mid_blocks.specs.declared.code.Mid.{Mid}
use Rattle.mid_blocks.specs.Lines.{Step, End}
use Rattle.mid_blocks.specs.Valid.{target, falls_on}
use Rattle.mid_blocks.specs.Tested.{takes}
use Rattle.lower_rules.specs.Programs.{in_number_order, low_function, low_program}
use Rattle.lower_rules.specs.Fitting.{Fitting}
use Rattle.lower_law.proofs.Plans.{function_at, number_main}
use Rattle.lower_valid_law.proofs.Clean.{odds}
use Rattle.lower_valid_law.proofs.Blocks.{odds-append}
use Rattle.lower_valid_law.proofs.PrunedFunction.{Raw}
use Rattle.lower_valid_law.proofs.Functions.{raw_function}
use Rattle.lower_calls_law.specs.LoweringChainsLaws.{OneEach}
use Rattle.mid_blocks.specs.Leads.{blocks_of, is_block, EndInside}
use Rattle.lower_checked.specs.Leading.{LowersInside}

fits_even : (fits : ℕ → ℕ → Bool) (function n : ℕ) → (let k : ℕ = if fits function n then 0 else 2 in k) ≤ 1 → fits function n ≡ true
fits_even fits function n h = by (fits function n) refl h
  where
    by : (b : Bool) → fits function n ≡ b → (let k : ℕ = if fits function n then 0 else 2 in k) ≤ 1 → fits function n ≡ true
    by true e le = e
    by false e le = absurd (omega (arith, ap (λ (b : Bool). let k : ℕ = if b then 0 else 2 in k) e, le))

module _ (names : Names) (program : Program) (chain_pairs : ℕ) (ok : Fitting names program.items) (one_each : OneEach names program.items)
    (light : (number : ℕ) (f : Function) → slice_get (in_number_order names.main program.items) number ≡ Some f → function_weight f ≤ 4000) where
  abbrev items : List TopItem
  items = program.items

  abbrev mid : Mid
  mid = low_program names program chain_pairs

  abbrev count : ℕ
  count = length (low_program names program chain_pairs).globals

  abbrev fits : ℕ → ℕ → Bool
  fits number n = takes (slice_get (low_program names program chain_pairs).functions number) n

  raw_at : (j : ℕ) (code : MidFunction) → slice_get mid.functions j ≡ Some code → Raw count fits code
  raw_at j code h = by (slice_get (in_number_order names.main items) j) refl (sym (slice_get-map (low_function names items) (in_number_order names.main items) j) ∙ h)
    where
      by : (o : Option Function) → slice_get (in_number_order names.main items) j ≡ o → option_map (low_function names items) o ≡ Some code → Raw count fits code
      by None at e = absurd (cc)
      by (Some f) at e =
          let same : low_function names items f ≡ code = cc in
          subst (λ (x : MidFunction). Raw count fits x) same (raw_function names program chain_pairs ok f (one_each j f at) (light j f at))

  some_block : (j : ℕ) (o : Option MidFunction) → slice_get mid.functions j ≡ o → (n : ℕ) → takes o n ≡ true → 0 < blocks_of o
  some_block j None e n h = absurd (false≢true h)
  some_block j (Some code) e n h = (raw_at j code e).some

  main_at : slice_get mid.functions 0 ≡ Some (low_function names items ok.main)
  main_at =
      slice_get-map (low_function names items) (in_number_order names.main items) 0
      ∙ ap (λ k. option_map (low_function names items) (slice_get (in_number_order names.main items) k)) (sym (number_main names items ok.main ok.main_is))
      ∙ ap (option_map (low_function names items)) (function_at names items names.main ok.main ok.main_is)

  inside : (f block : ℕ) (code : MidFunction) (b : MidBlock) → slice_get mid.functions f ≡ Some code → slice_get code.blocks block ≡ Some b → (end : MidEnd) → b.end ≡ end → EndInside mid f block end
  inside f block code b is at (Jump to) e = within f block code b is at to (ap target e)
    where
      within : (f block : ℕ) (code : MidFunction) (b : MidBlock) → slice_get mid.functions f ≡ Some code → slice_get code.blocks block ≡ Some b → (to : ℕ) → target b.end ≡ Some to → is_block mid f to
      within f block code b is at to t = subst (λ o. to < blocks_of o) (sym is) ((raw_at f code is).in_range block to b at t)
  inside f block code b is at (Branch test when to) e = (subst (λ o. to < blocks_of o) (sym is) ((raw_at f code is).in_range block to b at (ap target e)), subst (λ o. block + 1 < blocks_of o) (sym is) ((raw_at f code is).next block b at (ap falls_on e)))
  inside f block code b is at (Call function args result) e =
      let odd : odds count fits (map Step b.steps ++ End (Call function args result) ∷ []) ≤ 1 = subst (λ (x : MidEnd). odds count fits (map Step b.steps ++ End x ∷ []) ≤ 1) e ((raw_at f code is).odd block b at) in
      let fit : fits function (length args) ≡ true = fits_even fits function (length args) (omega (arith, odd, odds-append count fits (map Step b.steps) (End (Call function args result) ∷ []))) in
      (some_block function (slice_get mid.functions function) refl (length args) fit, subst (λ o. block + 1 < blocks_of o) (sym is) ((raw_at f code is).next block b at (ap falls_on e)))
  inside f block code b is at (Return from) e = tt

pub leads_inside : LowersInside
leads_inside names program chain_pairs ok one_each light = record {
  begins = subst (λ o. 0 < blocks_of o) (sym (main_at names program chain_pairs ok one_each light)) (raw_at names program chain_pairs ok one_each light 0 (low_function names program.items ok.main) (main_at names program chain_pairs ok one_each light)).some;
  leads = λ f block code b is at. inside names program chain_pairs ok one_each light f block code b is at b.end refl;
}
