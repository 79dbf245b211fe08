-- How often the doubled program of one small leaf loads through the stack pointers.
use Rattle.std.proofs.Common.{◌≡◌, ◌≤◌, ◌<◌, ◌+◌, ◌*◌, ℕ, suc, arith, ap, refl, sym, ◌∙◌, subst, List, [], ◌∷◌, length, map}
use Rattle.std.specs.Prelude.{Option, Some, get_or, slice_get, sum, count_by}
use Rattle.std.proofs.lemmas.Option.{get_or_from_slice_get, slice_get_within}
use Rattle.mid_blocks.specs.declared.code.Mid.{Mid}
use Rattle.mid_blocks.specs.declared.code.MidFunction.{MidFunction}
use Rattle.mid_blocks.specs.declared.places.Places.{Places}
use Rattle.mid_blocks.specs.Valid.{ValidFunction, Valid, is_return}
use Rattle.mid_blocks.proofs.Positions.{got}
use Rattle.register_halves.specs.Assigned.{AreAssigned}
use Rattle.mid_blocks.specs.Leaf.{IsSmallLeaf, IsOneLeaf}
use Rattle.register_halves.specs.Leaf.{LeafHasNoSlots}
use Rattle.hard_items.specs.Counts.{reloads}
use Rattle.hard_words.proofs.Sums.{sum_cons}
use Rattle.double_law.specs.DoubleReloadsLaw.{NoSlots, parameters_and_returns, FewReloads}
use Rattle.duplicate_pass.specs.Doubled.{doubled_program}
use Rattle.duplicate_pass.proofs.Doubled.{doubles}
use Rattle.harden.specs.Blocks.{IsReady}
use Rattle.harden.specs.CompileBlocksSteps.{AreAllAssigned}
use Rattle.harden.proofs.Fitted.{all_fit}

some_is : {A : Type 0} (x y : A) → ◌≡◌ {A = Option A} (Some x) (Some y) → x ≡ y
some_is x y e = cc

-- what holds of each function holds of the one that stands there
at_one : (P : MidFunction → Type 0) (fs : List MidFunction) (n : ℕ) (f : MidFunction) → P (get_or fs n f) → slice_get fs n ≡ Some f → P f
at_one P fs n f h e = subst P (get_or_from_slice_get fs n f f e) h

-- none of its variables is in a slot
no_slots : (mid : Mid) (places : List Places) → Valid mid → IsOneLeaf mid → AreAllAssigned mid places → LeafHasNoSlots → NoSlots places
no_slots mid places valid leaf a law n v slot at is there =
    let below : n < length mid.functions = subst (λ (k : ℕ). n < k) a.one_each (slice_get_within places n at is) in
    let g : (f : MidFunction) × (slice_get mid.functions n ≡ Some f) = got mid.functions n below in
    let r : (at : Places) × (slice_get places n ≡ Some at) × AreAssigned g.0 8 at = a.each n g.0 g.1 in
    let assigned : AreAssigned g.0 8 at = subst (λ (p : Places). AreAssigned g.0 8 p) (some_is r.0 at (sym r.1 ∙ is)) r.2 in
    law g.0 at (at_one ValidFunction mid.functions n g.0 (valid.functions_valid n g.0 below) g.1)
    (at_one IsSmallLeaf mid.functions n g.0 (leaf.each n g.0 below) g.1) assigned v slot there

-- it has no parameters and returns once
sum_one : (g : MidFunction → ℕ) (fs : List MidFunction) → length fs ≤ 1 → ((f : MidFunction) → slice_get fs 0 ≡ Some f → g f ≤ 1) → sum (map g fs) ≤ 1
sum_one g [] h each = omega arith
sum_one g (f ∷ []) h each = subst (λ (k : ℕ). k ≤ 1) (sym (sum_cons (g f) [])) (plus_none (g f) (each f refl))
  where
    plus_none : (k : ℕ) → k ≤ 1 → k + 0 ≤ 1
    plus_none k l = omega arith
sum_one g (f ∷ (x ∷ fs)) h each = absurd (never (length fs) h)
  where
    never : (k : ℕ) → suc (suc k) ≤ 1 → ⊥
    never k l = omega arith

returns_once : (mid : Mid) → Valid mid → IsOneLeaf mid → parameters_and_returns mid ≤ 1
returns_once mid valid leaf = sum_one (λ f. f.params + count_by (λ b. is_return b.end) f.blocks) mid.functions leaf.one each
  where
    few : (p r : ℕ) → p ≡ 0 → r ≤ 1 → p + r ≤ 1
    few p r e h = omega (arith, e, h)

    each : (f : MidFunction) → slice_get mid.functions 0 ≡ Some f → f.params + count_by (λ b. is_return b.end) f.blocks ≤ 1
    each f is =
        let fits : ValidFunction f = at_one ValidFunction mid.functions 0 f (valid.functions_valid 0 f (slice_get_within mid.functions 0 f is)) is in
        let main : (main : MidFunction) × (slice_get mid.functions 0 ≡ Some main) × (main.params ≡ 0) = valid.main_fits in
        few f.params (count_by (λ b. is_return b.end) f.blocks) (ap (λ (h : MidFunction). h.params) (some_is f main.0 (sym is ∙ main.1)) ∙ main.2) fits.one_return

pub leaf_reloads : (mid : Mid) (places : List Places) → IsReady mid → AreAllAssigned mid places → FewReloads → LeafHasNoSlots → IsOneLeaf mid → reloads (doubled_program mid places) ≤ 2
leaf_reloads mid places r a few law leaf =
    by (reloads (doubled_program mid places)) (parameters_and_returns mid)
    (few mid places (doubled_program mid places) (doubles mid places r.valid r.shallow r.proper r.has_words (all_fit mid places a)) (no_slots mid places r.valid leaf a law))
    (returns_once mid r.valid leaf)
  where
    by : (n k : ℕ) → n ≤ 2 * k → k ≤ 1 → n ≤ 2
    by n k h l = omega (arith, h, l)
