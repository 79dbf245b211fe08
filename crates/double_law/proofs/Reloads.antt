-- The loads through the stack pointers of a doubled program, with all variables in pairs.
use Rattle.std.proofs.Common.{◌≡◌, ◌≤◌, ◌<◌, ℕ, zero, suc, ◌+◌, ◌*◌, arith, ap, refl, sym, ◌∙◌, subst, List, [], ◌∷◌, ◌++◌, cond, length, map, flat_map, sum, le_refl, le_trans, zero-le, zero-add}
use Rattle.std.specs.Prelude.{Option, Some, None, slice_get, slice_index_or, count_by}
use Rattle.std.proofs.lemmas.List.Sums.{sum_by-cons}
use Rattle.hard_items.specs.declared.code.Item.{Item}
use Rattle.hard_items.specs.declared.code.HardProgram.{HardProgram}
use Rattle.hard_items.specs.Run.{items_of}
use Rattle.mid_blocks.specs.declared.code.MidStep.{MidStep}
use Rattle.mid_blocks.specs.declared.code.MidBlock.{MidBlock}
use Rattle.mid_blocks.specs.declared.code.MidFunction.{MidFunction}
use Rattle.mid_blocks.specs.declared.code.Mid.{Mid}
use Rattle.mid_blocks.specs.declared.places.Place.{Place}
use Rattle.mid_blocks.specs.declared.places.Place.TheVariants.{Pair, Slot}
use Rattle.mid_blocks.specs.declared.places.Places.{Places}
use Rattle.mid_blocks.specs.Lines.{Step, End, first_of}
use Rattle.mid_blocks.specs.Liveness.{PlacesFit}
use Rattle.mid_blocks.specs.Valid.{ValidFunction, line_variables, is_return}
use Rattle.frame_plan.specs.Frames.{cell_address, global_cell, global_length}
use Rattle.double_law.specs.Emitted.{place_of, step_items, end_items}
use Rattle.double_law.specs.Program.{first_block, start_items, behind_block, body_items, first_items}
use Rattle.double_law.specs.Law.{Doubles}
use Rattle.hard_words.proofs.Sums.{sum_cons}
use Rattle.double_law.proofs.Relation.{StepAt, EndAt}
use Rattle.double_law.proofs.Wiring.{all_at, there}
use Rattle.double_law.proofs.Flows.{step_line, end_line, named_below}
use Rattle.double_law.proofs.Numbers.{some_same, before}
use Rattle.double_law.proofs.BlockKinds.{Kind, is_first, is_exit, is_inner, block_is}
use Rattle.double_law.specs.DoubleReloadsLaw.{NoSlots, parameters_and_returns, FewReloads}
use Rattle.double_law.proofs.Loads.{Still, loads, still_append, no_loads, loads_append, IsPair, InPairs, still_step, end_loads, end_load, still_behind, enter_loads}
use Rattle.double_law.proofs.Sums.{sum_below, sum_append, numbers, all_numbers, all_length, all_at_number}

-- ---- blocks

-- The loads of a block at most: the parameters at a function's first, and a return address.
abbrev block_loads : MidFunction → ℕ → MidBlock → ℕ
block_loads f zero x = 2 * f.params + end_loads x.end
block_loads f (suc b) x = end_loads x.end

still_steps : (address size : ℕ → ℕ) (at : Places) (xs : List MidStep) → ((k : ℕ) (s : MidStep) → slice_get xs k ≡ Some s → Still (step_items address size at s)) → Still (flat_map (step_items address size at) xs)
still_steps address size at [] h = tt
still_steps address size at (s ∷ xs) h = still_append (step_items address size at s) (flat_map (step_items address size at) xs) (h 0 s refl) (still_steps address size at xs (λ k z e. h (suc k) z e))

place_at : (xs : List Place) (v : ℕ) (pl : Place) → slice_get xs v ≡ Some pl → slice_index_or xs v (Slot 0) ≡ pl
place_at [] v pl e = absurd (none pl e)
  where
    none : (pl : Place) → None ≡ Some pl → ⊥
    none pl e = cc
place_at (x ∷ xs) zero pl e = some_same x pl e
place_at (x ∷ xs) (suc v) pl e = place_at xs v pl e

module _ (mid : Mid) (places : List Places) (p : HardProgram) (d : Doubles mid places p) (s : NoSlots places) where
  module _ (n : ℕ) (f : MidFunction) (at : Places) (has : slice_get places n ≡ Some at) (vf : ValidFunction f) (pf : PlacesFit f at) where
    paired : (v : ℕ) → v < f.variables → IsPair (place_of at v)
    paired v l = let t : (pl : Place) × (slice_get at.list v ≡ Some pl) = there at.list v (subst (λ (m : ℕ). v < m) (sym pf.one_each) l) in by t.0 t.1
      where
        by : (pl : Place) → slice_get at.list v ≡ Some pl → IsPair (place_of at v)
        by (Pair k) e = subst IsPair (sym (place_at at.list v (Pair k) e)) (pf.pairs_exist v k e)
        by (Slot slot) e = absurd (s n v slot at has e)

    step_pairs : (b k : ℕ) (x : MidBlock) (z : MidStep) → slice_get f.blocks b ≡ Some x → slice_get x.steps k ≡ Some z → InPairs at (line_variables (Step z))
    step_pairs b k x z e g v c = let here : StepAt f b k z = record { block = x; is_block = e; is_step = g } in
        paired v (named_below f at vf pf (first_of f b + k) (Step z) v (step_line f b k z here) c)

    end_pairs : (b : ℕ) (x : MidBlock) → slice_get f.blocks b ≡ Some x → InPairs at (line_variables (End x.end))
    end_pairs b x e v c = let here : EndAt f b (length x.steps) x.end = record { block = x; is_block = e; is_last = refl; is_end = refl } in
        paired v (named_below f at vf pf (first_of f b + length x.steps) (End x.end) v (end_line f b (length x.steps) x.end here) c)

    body_load : (b : ℕ) (x : MidBlock) → slice_get f.blocks b ≡ Some x → loads (body_items mid n f at x) ≡ end_loads x.end
    body_load b x e =
        let address : ℕ → ℕ = λ g. cell_address (global_cell mid g) in
        let code : List Item = flat_map (step_items address (global_length mid) at) x.steps in
        loads_append code (end_items (first_block mid n) f.pairs at x.end) ∙
        (ap (λ (m : ℕ). m + loads (end_items (first_block mid n) f.pairs at x.end)) (no_loads code (still_steps address (global_length mid) at x.steps (λ k z g. still_step address (global_length mid) at z (step_pairs b k x z e g)))) ∙
        (zero-add (loads (end_items (first_block mid n) f.pairs at x.end)) ∙ end_load (first_block mid n) f.pairs at x.end (end_pairs b x e)))

    still_start : (b : ℕ) → Still (start_items f at (suc b))
    still_start b = by (slice_get f.blocks b) refl
      where
        by : (o : Option MidBlock) → slice_get f.blocks b ≡ o → Still (behind_block at o)
        by None e = tt
        by (Some x) e = still_behind at x.end (end_pairs b x e)

    whole_load : (b : ℕ) (x : MidBlock) → slice_get f.blocks b ≡ Some x → loads (start_items f at b ++ body_items mid n f at x) ≤ block_loads f b x
    whole_load zero x e = more (loads (start_items f at 0)) (loads (body_items mid n f at x)) (loads (start_items f at 0 ++ body_items mid n f at x)) f.params (end_loads x.end) (loads_append (start_items f at 0) (body_items mid n f at x)) (enter_loads at f.pairs f.params) (body_load 0 x e)
      where
        more : (a b t q c : ℕ) → t ≡ a + b → a ≤ 2 * q → b ≡ c → t ≤ 2 * q + c
        more a b t q c e h k = omega arith
    whole_load (suc b) x e = more (loads (start_items f at (suc b))) (loads (body_items mid n f at x)) (loads (start_items f at (suc b) ++ body_items mid n f at x)) (end_loads x.end) (loads_append (start_items f at (suc b)) (body_items mid n f at x)) (no_loads (start_items f at (suc b)) (still_start b)) (body_load (suc b) x e)
      where
        more : (a b t c : ℕ) → t ≡ a + b → a ≡ 0 → b ≡ c → t ≤ c
        more a b t c e h k = omega arith

  -- ---- all blocks

  first_load : loads (first_items mid) ≤ 0
  first_load = le_refl 0

  loads_at : (x : ℕ) → x < length p.blocks → (h : ℕ) → slice_get (0 ∷ 0 ∷ all_numbers block_loads mid.functions) x ≡ Some h → loads (items_of p x) ≤ h
  loads_at x l h q = by (block_is mid places p d x l).kind
    where
      two_first : (x a b : ℕ) → x ≡ 2 + a + b → x ≡ suc (suc (a + b))
      two_first x a b e = omega arith

      by : (k : Kind mid places x (block_is mid places p d x l).close) → loads (items_of p x) ≤ h
      by (is_first e c) = subst (λ (xs : List Item). loads xs ≤ h) (sym (ap (λ (z : ℕ). items_of p z) e ∙ d.emitted.first)) zero-le
      by (is_exit e c) = subst (λ (xs : List Item). loads xs ≤ h) (sym (ap (λ (z : ℕ). items_of p z) e ∙ d.emitted.exit)) zero-le
      by (is_inner i c) =
          let found : slice_get (0 ∷ 0 ∷ all_numbers block_loads mid.functions) x ≡ Some (block_loads i.f i.b i.block) =
          ap (λ (n : ℕ). slice_get (0 ∷ 0 ∷ all_numbers block_loads mid.functions) n) (two_first x (before mid.functions i.n) i.b i.number) ∙ all_at_number block_loads mid.functions i.n i.b i.f i.block i.is_function i.is_block in
          subst (λ (n : ℕ). loads (items_of p x) ≤ n) (some_same (block_loads i.f i.b i.block) h (sym found ∙ q))
          (subst (λ (xs : List Item). loads xs ≤ block_loads i.f i.b i.block) (sym (ap (λ (z : ℕ). items_of p z) i.number ∙ d.emitted.block i.n i.b i.f i.at i.block i.is_function i.has_places i.is_block))
          (whole_load i.n i.f i.at i.has_places (all_at ValidFunction mid.functions i.n i.f d.valid.functions_valid i.is_function) i.fit i.b i.block i.is_block))

-- ---- sums

later_sums : (f : MidFunction) (b : ℕ) (xs : List MidBlock) → sum (numbers block_loads f (suc b) xs) ≡ 2 * count_by (λ x. is_return x.end) xs
later_sums f b [] = refl
later_sums f b (x ∷ xs) = more (end_loads x.end) (sum (numbers block_loads f (suc (suc b)) xs)) (sum (numbers block_loads f (suc b) (x ∷ xs))) (cond (is_return x.end) 1 0) (count_by (λ y. is_return y.end) xs) (count_by (λ y. is_return y.end) (x ∷ xs))
    (sum_cons (end_loads x.end) (numbers block_loads f (suc (suc b)) xs)) (sum_by-cons (λ (y : MidBlock). cond (is_return y.end) 1 0) x xs) (later_sums f (suc b) xs) refl
  where
    more : (e s t o n m : ℕ) → t ≡ e + s → m ≡ o + n → s ≡ 2 * n → e ≡ 2 * o → t ≡ 2 * m
    more e s t o n m f g h k = omega arith

function_sum : (f : MidFunction) (xs : List MidBlock) → sum (numbers block_loads f 0 xs) ≤ 2 * (f.params + count_by (λ x. is_return x.end) xs)
function_sum f [] = zero-le
function_sum f (x ∷ xs) = more f.params (end_loads x.end) (sum (numbers block_loads f 1 xs)) (sum (numbers block_loads f 0 (x ∷ xs))) (cond (is_return x.end) 1 0) (count_by (λ y. is_return y.end) xs) (count_by (λ y. is_return y.end) (x ∷ xs))
    (sum_cons (2 * f.params + end_loads x.end) (numbers block_loads f 1 xs)) (sum_by-cons (λ (y : MidBlock). cond (is_return y.end) 1 0) x xs) (later_sums f 0 xs) refl
  where
    more : (q e s t o n m : ℕ) → t ≡ 2 * q + e + s → m ≡ o + n → s ≡ 2 * n → e ≡ 2 * o → t ≤ 2 * (q + m)
    more q e s t o n m f g h k = omega arith

all_sum : (fs : List MidFunction) → sum (all_numbers block_loads fs) ≤ 2 * sum (map (λ (f : MidFunction). f.params + count_by (λ b. is_return b.end) f.blocks) fs)
all_sum [] = zero-le
all_sum (f ∷ fs) = more (sum (numbers block_loads f 0 f.blocks)) (sum (all_numbers block_loads fs)) (sum (all_numbers block_loads (f ∷ fs))) (f.params + count_by (λ b. is_return b.end) f.blocks) (sum (map (λ (f : MidFunction). f.params + count_by (λ b. is_return b.end) f.blocks) fs)) (sum (map (λ (f : MidFunction). f.params + count_by (λ b. is_return b.end) f.blocks) (f ∷ fs)))
    (sum_append (numbers block_loads f 0 f.blocks) (all_numbers block_loads fs)) (sum_cons (f.params + count_by (λ b. is_return b.end) f.blocks) (map (λ (f : MidFunction). f.params + count_by (λ b. is_return b.end) f.blocks) fs)) (function_sum f f.blocks) (all_sum fs)
  where
    more : (a b t w x u : ℕ) → t ≡ a + b → u ≡ w + x → a ≤ 2 * w → b ≤ 2 * x → t ≤ 2 * u
    more a b t w x u e f g h = omega arith

pub few_reloads : FewReloads
few_reloads mid places p d s = le_trans (sum_below loads p.blocks (0 ∷ 0 ∷ all_numbers block_loads mid.functions) (long (length p.blocks) (sum (map (λ (f : MidFunction). length f.blocks) mid.functions)) (length (all_numbers block_loads mid.functions)) d.emitted.blocks_long (all_length block_loads mid.functions)) (loads_at mid places p d s))
    (subst (λ (n : ℕ). n ≤ 2 * parameters_and_returns mid) (sym (sum_cons 0 (0 ∷ all_numbers block_loads mid.functions) ∙ (ap (λ (n : ℕ). 0 + n) (sum_cons 0 (all_numbers block_loads mid.functions)) ∙ zeros (sum (all_numbers block_loads mid.functions))))) (all_sum mid.functions))
  where
    long : (t s n : ℕ) → t ≡ 2 + s → n ≡ s → t ≡ suc (suc n)
    long t s n e h = omega arith

    zeros : (n : ℕ) → 0 + (0 + n) ≡ n
    zeros n = omega arith
