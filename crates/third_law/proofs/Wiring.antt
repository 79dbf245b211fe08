-- A valid program has all ways that the simulation goes.
use Rattle.std.proofs.Common.{◌≡◌, ◌≢◌, ◌≤◌, ◌<◌, ℕ, zero, suc, ◌+◌, ◌-◌, ◌*◌, ◌/◌, ◌%◌, ◌^◌, arith, ap, refl, sym, ◌∙◌, subst, List, [], ◌∷◌, ◌++◌, length, get_or, take, map, Bool, true, false, cond, inl, inr, flat_map, sum, le_refl, le_trans}
use Rattle.std.specs.Prelude.{Option, Some, None, ◌⊎◌, slice_get, All, Any}
use Rattle.std.proofs.lemmas.Option.{slice_get_within, get_or_from_slice_get}
use Rattle.mid_blocks.specs.declared.code.MidEnd.{MidEnd}
use Rattle.mid_blocks.specs.declared.code.MidEnd.TheVariants.{Jump, Branch, Call, Return}
use Rattle.mid_blocks.specs.declared.code.MidBlock.{MidBlock}
use Rattle.mid_blocks.specs.declared.code.MidFunction.{MidFunction}
use Rattle.mid_blocks.specs.declared.code.Mid.{Mid}
use Rattle.mid_blocks.specs.declared.places.Places.{Places}
use Rattle.mid_blocks.specs.Valid.{ValidFunction, Valid, IsTarget, IsBehind, target, falls_on, is_call}
use Rattle.third_law.specs.Program.{start_code, behind_block, behind_end}
use Rattle.third_law.specs.Law.{FitsThree, AllFitThree}
use Rattle.third_law.proofs.Relation.{EndAt}
use Rattle.third_law.proofs.Ends.{BlockThere, Wired}

some_same : {A : Type 0} (x y : A) → ◌≡◌ {A = Option A} (Some x) (Some y) → x ≡ y
some_same {A} x y e = ap (λ (o : Option A). elim o as (λ z. A) [ Some v ↦ v | None ↦ x ]) e

none_is : {A : Type 0} (x : A) → ◌≡◌ {A = Option A} None (Some x) → ⊥
none_is x e = cc

pub there : {A : Type 0} (xs : List A) (n : ℕ) → n < length xs → (x : A) × (slice_get xs n ≡ Some x)
there [] n h = absurd (Rattle.std.proofs.Common.not-suc-le-zero h)
there (x ∷ xs) zero h = (x, refl)
there (x ∷ xs) (suc n) h = there xs n (Rattle.std.proofs.Common.le_of_suc-le-suc h)

any_of : {A : Type 0} (P : A → Type 0) (xs : List A) (n : ℕ) (x : A) → slice_get xs n ≡ Some x → P x → Any P xs
any_of P xs n x e h = (n, x, slice_get_within xs n x e, get_or_from_slice_get xs n x x e, h)

pub all_at : {A : Type 0} (P : A → Type 0) (xs : List A) (n : ℕ) (x : A) → All P xs → slice_get xs n ≡ Some x → P x
all_at P xs n x h e = subst P (get_or_from_slice_get xs n x x e) (h n x (slice_get_within xs n x e))

-- ---- blocks

module _ (mid : Mid) (places : List Places) (valid : Valid mid) (fit : AllFitThree mid places) where
  good : (n : ℕ) (f : MidFunction) → slice_get mid.functions n ≡ Some f → ValidFunction f
  good n f e = all_at ValidFunction mid.functions n f valid.functions_valid e

  targets : (f : MidFunction) (b n to : ℕ) (e : MidEnd) → EndAt f b n e → target e ≡ Some to → IsTarget f to
  targets f b n to e h t = any_of (λ b. target b.end ≡ Some to) f.blocks b h.block h.is_block (ap (λ (x : MidEnd). target x) h.is_end ∙ t)

  behind : (test : MidEnd → Bool) (f : MidFunction) (b n : ℕ) (e : MidEnd) → EndAt f b n e → test e ≡ true → IsBehind test f (b + 1)
  behind test f b n e h t = (b, e, (h.block, h.is_block, h.is_end), t, refl)

  plain_end : (at : Places) (e : MidEnd) → is_call e ≡ false → behind_end at e ≡ []
  plain_end at (Jump to) h = refl
  plain_end at (Branch v w to) h = refl
  plain_end at (Call g args result) h = absurd (Rattle.std.proofs.Common.true≢false h)
  plain_end at (Return from) h = refl

  bool_cases : (z : Bool) → (z ≡ true) ⊎ (z ≡ false)
  bool_cases true = inl refl
  bool_cases false = inr refl

  -- a block that is named begins with its first line
  named_plain : (f : MidFunction) (at : Places) (to : ℕ) → ValidFunction f → IsTarget f to → start_code f at to ≡ []
  named_plain f at zero vf t = absurd (vf.not_the_first t)
  named_plain f at (suc b) vf t = by_block (slice_get f.blocks b) refl
    where
      by_block : (o : Option MidBlock) → slice_get f.blocks b ≡ o → behind_block at o ≡ []
      by_block None e = refl
      by_block (Some x) e = elim (bool_cases (is_call x.end)) as (λ z. behind_end at x.end ≡ []) [
        | inl c ↦ absurd (vf.not_behind_call (suc b) (b, x.end, (x, e, refl), c, sym (Rattle.std.proofs.Common.add-one b)) t)
        | inr c ↦ plain_end at x.end c
      ]

  target_there : (f : MidFunction) (at : Places) (b n to : ℕ) (e : MidEnd) → ValidFunction f → EndAt f b n e → target e ≡ Some to → BlockThere f at to
  target_there f at b n to e vf h t =
      let x : (x : MidBlock) × (slice_get f.blocks to ≡ Some x) = there f.blocks to (vf.blocks_exist to (targets f b n to e h t)) in
      record { block = x.0; is_block = x.1; plain_start = named_plain f at to vf (targets f b n to e h t) }

  next_there : (f : MidFunction) (b n : ℕ) (e : MidEnd) → ValidFunction f → EndAt f b n e → falls_on e ≡ true → (x : MidBlock) × (slice_get f.blocks (b + 1) ≡ Some x)
  next_there f b n e vf h t = there f.blocks (b + 1) (vf.has_next (b + 1) (behind falls_on f b n e h t))

  fallen_plain : (f : MidFunction) (at : Places) (b n : ℕ) (e : MidEnd) → EndAt f b n e → behind_end at e ≡ [] → start_code f at (b + 1) ≡ []
  fallen_plain f at b n e h t = ap (λ (k : ℕ). start_code f at k) (Rattle.std.proofs.Common.add-one b) ∙ (ap (λ (x : Option MidBlock). behind_block at x) h.is_block ∙ (ap (λ (x : MidEnd). behind_end at x) h.is_end ∙ t))

  -- ---- functions

  pub function_there : (g : ℕ) (f : MidFunction) (b n k : ℕ) (args : List ℕ) (result : Option ℕ) → slice_get mid.functions k ≡ Some f → EndAt f b n (Call g args result) → (f' : MidFunction) × (slice_get mid.functions g ≡ Some f') × (length args ≡ f'.params)
  function_there g f b n k args result e h = valid.calls_fit g args
      (any_of (λ f. Any (λ b. (result : Option ℕ) × (b.end ≡ Call g args result)) f.blocks) mid.functions k f e (any_of (λ b. (result : Option ℕ) × (b.end ≡ Call g args result)) f.blocks b h.block h.is_block (result, h.is_end)))

  -- The ways of the simulation.
  pub wired : Wired mid places
  wired = record {
    jump_there = λ fn b n to f at e a h. target_there f at b n to (Jump to) (good fn f e) h refl;
    branch_there = λ fn b n v to w f at e a h. (
      target_there f at b n to (Branch v w to) (good fn f e) h refl,
      (let x : (x : MidBlock) × (slice_get f.blocks (b + 1) ≡ Some x) = next_there f b n (Branch v w to) (good fn f e) h refl in record { block = x.0; is_block = x.1; plain_start = fallen_plain f at b n (Branch v w to) h refl }),
    );
    call_goes_on = λ fn b n g args result f e h. next_there f b n (Call g args result) (good fn f e) h refl;
    callee_there = λ fn b n g args result f e h.
        let x : (f' : MidFunction) × (slice_get mid.functions g ≡ Some f') × (length args ≡ f'.params) = function_there g f b n fn args result e h in
        let a : (at : Places) × (slice_get places g ≡ Some at) × FitsThree x.0 at = fit g x.0 x.1 in
        let y : (y : MidBlock) × (slice_get x.0.blocks 0 ≡ Some y) = there x.0.blocks 0 (good g x.0 x.1).has_block in
        (x.0, a.0, y.0, x.1, a.1, y.1, x.2);
  }
