-- A call is the last item but one of its block, so that each block has at most one.
use Rattle.std.proofs.Common.{◌≡◌, ◌≤◌, ◌<◌, ℕ, zero, suc, ◌+◌, ◌-◌, ◌*◌, arith, ap, refl, sym, ◌∙◌, subst, List, [], ◌∷◌, length, Bool, true, false, cond, inl, inr}
use Rattle.std.specs.Prelude.{Option, Some, ◌⊎◌, get_or, slice_get, sum_by, count_by}
use Rattle.std.proofs.lemmas.Option.{slice_get-get_or}
use Rattle.std.proofs.lemmas.List.Sums.{sum_by-cons, sum_by-le}
use Rattle.mips_isa.specs.declared.instr.Instr.{Instr}
use Rattle.mips_isa.specs.declared.instr.Instr.TheVariants.{Jal, Beq, Bne}
use Rattle.mips_isa.specs.Machine.{is_jump}
use Rattle.hard_items.specs.declared.code.Item.{Item}
use Rattle.hard_items.specs.declared.code.HardBlock.{HardBlock}
use Rattle.hard_items.specs.declared.code.HardProgram.{HardProgram}
use Rattle.hard_items.specs.Run.{items_of, block_items, is_call}
use Rattle.hard_items.specs.WellFormed.{WellFormed, SkipsBreak, ItemAt}

no_true : false ≡ true → ⊥
no_true e = cc

-- ---- tests that pass at most at one place

passes_none : {A : Type 0} (f : A → Bool) (xs : List A) → ((k : ℕ) (x : A) → slice_get xs k ≡ Some x → f x ≡ true → ⊥) → count_by f xs ≡ 0
passes_none f [] never = refl
passes_none f (x ∷ xs) never = by (f x) (count_by f (x ∷ xs)) (count_by f xs) (sum_by-cons (λ y. cond (f y) 1 0) x xs) (never zero x refl) (passes_none f xs (λ k y e. never (suc k) y e))
  where
    by : (b : Bool) (all rest : ℕ) → all ≡ cond b 1 0 + rest → (b ≡ true → ⊥) → rest ≡ 0 → all ≡ 0
    by true all rest e n z = absurd (n refl)
    by false all rest e n z = omega (arith, e, z)

pub passes_once : {A : Type 0} (f : A → Bool) (xs : List A) (n : ℕ) → ((k : ℕ) (x : A) → slice_get xs k ≡ Some x → f x ≡ true → k ≡ n) → count_by f xs ≤ 1
passes_once f [] n only = omega arith
passes_once f (x ∷ xs) zero only = by (f x) (count_by f (x ∷ xs)) (count_by f xs) (sum_by-cons (λ y. cond (f y) 1 0) x xs) (passes_none f xs (λ k y e t. later k (only (suc k) y e t)))
  where
    later : (k : ℕ) → suc k ≡ 0 → ⊥
    later k e = omega arith

    by : (b : Bool) (all rest : ℕ) → all ≡ cond b 1 0 + rest → rest ≡ 0 → all ≤ 1
    by true all rest e z = omega (arith, e, z)
    by false all rest e z = omega (arith, e, z)
passes_once f (x ∷ xs) (suc n) only = by (f x) (count_by f (x ∷ xs)) (count_by f xs) (sum_by-cons (λ y. cond (f y) 1 0) x xs) (λ t. first n (only zero x refl t)) (passes_once f xs n (λ k y e t. behind k n (only (suc k) y e t)))
  where
    first : (n : ℕ) → 0 ≡ suc n → ⊥
    first n e = omega arith

    behind : (k n : ℕ) → suc k ≡ suc n → k ≡ n
    behind k n e = omega arith

    by : (b : Bool) (all rest : ℕ) → all ≡ cond b 1 0 + rest → (b ≡ true → ⊥) → rest ≤ 1 → all ≤ 1
    by true all rest e n z = absurd (n refl)
    by false all rest e n z = omega (arith, e, z)

-- ---- calls

jump_of : (x : Instr) → is_call x ≡ true → is_jump x ≡ true
jump_of (Jal target) h = refl
jump_of x h = absurd (no_true h)

same_item : (i j : Item) → ◌≡◌ {A = Option Item} (Some i) (Some j) → i ≡ j
same_item i j e = cc

module _ (p : HardProgram) (w : WellFormed p) where
  skips_none : (b k : ℕ) (i : Item) → ItemAt (items_of p b) k i → is_call i.instr ≡ true → SkipsBreak (items_of p b) k → ⊥
  skips_none b k i at call s = by s.conditional
    where
      here : is_call s.branch.instr ≡ true
      here = ap (λ (j : Item). is_call j.instr) (same_item s.branch i (sym s.stands ∙ at)) ∙ call

      by : (s.branch.instr ≡ Beq s.rs s.rt 2) ⊎ (s.branch.instr ≡ Bne s.rs s.rt 2) → ⊥
      by (inl e) = no_true (sym (ap is_call e) ∙ here)
      by (inr e) = no_true (sym (ap is_call e) ∙ here)

  at_the_end : (b k : ℕ) (i : Item) → ItemAt (items_of p b) k i → is_call i.instr ≡ true → k ≡ length (items_of p b) - 2
  at_the_end b k i at call = by (w.only_at_the_end b k i at (jump_of i.instr call))
    where
      before : (k n : ℕ) → k + 2 ≡ n → k ≡ n - 2
      before k n e = omega arith

      by : SkipsBreak (items_of p b) k ⊎ (k + 2 ≡ length (items_of p b)) → k ≡ length (items_of p b) - 2
      by (inl s) = absurd (skips_none b k i at call s)
      by (inr e) = before k (length (items_of p b)) e

  one_of_block : (b : ℕ) → count_by (λ i. is_call i.instr) (items_of p b) ≤ 1
  one_of_block b = passes_once (λ i. is_call i.instr) (items_of p b) (length (items_of p b) - 2) (λ k i at call. at_the_end b k i at call)

  -- there are at most as many calls as blocks
  pub few_calls : sum_by (λ k. count_by (λ i. is_call i.instr) k.items) p.blocks ≤ length p.blocks
  few_calls = times_one (sum_by (λ k. count_by (λ i. is_call i.instr) k.items) p.blocks) (length p.blocks) (sum_by-le (λ k. count_by (λ i. is_call i.instr) k.items) 1 p.blocks here)
    where
      times_one : (a n : ℕ) → a ≤ n * 1 → a ≤ n
      times_one a n h = omega arith

      here : (b : ℕ) (d : HardBlock) → b < length p.blocks → count_by (λ i. is_call i.instr) (get_or p.blocks b d).items ≤ 1
      here b d h = subst (λ (xs : List Item). count_by (λ i. is_call i.instr) xs ≤ 1) (ap block_items (slice_get-get_or p.blocks b d h)) (one_of_block b)
