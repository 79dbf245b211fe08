-- What is left of the items of a block.
use Rattle.std.proofs.Common.{◌≡◌, ◌<◌, ◌≤◌, ℕ, suc, ◌+◌, arith, ap, refl, sym, ◌∙◌, List, [], ◌∷◌, length, drop, get_or, add-one, drop-cons}
use Rattle.std.specs.Prelude.{Some, None, slice_get}
use Rattle.std.proofs.Common.{inl, inr}
use Rattle.std.proofs.Math.ListN.{drop_of_length-le}
use Rattle.std.proofs.lemmas.Option.{slice_get_within, get_or_from_slice_get, slice_get_cases}
use Rattle.hard_items.specs.declared.code.Item.{Item}
use Rattle.hard_items.specs.declared.code.HardProgram.{HardProgram}
use Rattle.hard_items.specs.Run.{Data, Way, before, tail, items_of}

pub drop_some : (xs : List Item) (k : ℕ) (x : Item) → slice_get xs k ≡ Some x → drop k xs ≡ x ∷ drop (k + 1) xs
drop_some xs k x h =
    let lt : k < length xs = slice_get_within xs k x h in
    let e : get_or xs k x ≡ x = get_or_from_slice_get xs k x x h in
    rw (add-one k) (drop-cons xs k x lt ∙ ap (λ (y : Item). y ∷ drop (suc k) xs) e)

pub drop_none : (xs : List Item) (k : ℕ) → slice_get xs k ≡ None → drop k xs ≡ []
drop_none xs k h = elim (slice_get_cases xs k).1 [
  | inl i ↦ let e : None ≡ Some i.0 = sym h ∙ i.2 in cc
  | inr q ↦ drop_of_length-le xs q.0
]

tail_cons : (l : List Item) (x : Item) (xs : List Item) → l ≡ x ∷ xs → tail l ≡ xs
tail_cons l x xs e = rw e refl

tail_nil : (l : List Item) → l ≡ [] → tail l ≡ []
tail_nil l e = rw e refl

-- Behind the item that is skipped.
pub tail_drop : (xs : List Item) (k : ℕ) → tail (drop (k + 1) xs) ≡ drop (k + 2) xs
tail_drop xs k = elim (slice_get_cases xs (k + 1)).1 [
  | inl i ↦ let n : k + 1 + 1 ≡ k + 2 = omega arith in tail_cons _ i.0 (drop (k + 2) xs) (drop_some xs (k + 1) i.0 i.2 ∙ ap (λ (m : ℕ). i.0 ∷ drop m xs) n)
  | inr q ↦ let far : length xs ≤ k + 2 = omega (arith, q.0) in tail_nil _ (drop_of_length-le xs q.0) ∙ sym (drop_of_length-le xs far)
]

before_cons : (p : HardProgram) (b : ℕ) (l : List Item) (w : Way) (d : Data) (x : Item) (xs : List Item) → l ≡ x ∷ xs → before p b l w d ≡ record { block = b; rest = l; way = w; now = d; end = None }
before_cons p b l w d x xs e = rw e refl

before_nil : (p : HardProgram) (b : ℕ) (l : List Item) (w : Way) (d : Data) → l ≡ [] → before p b l w d ≡ record { block = b + 1; rest = items_of p (b + 1); way = w; now = d; end = None }
before_nil p b l w d e = rw e refl

-- Where items are left, a run stands before the first of them.
pub before_inside : (p : HardProgram) (b : ℕ) (xs : List Item) (k : ℕ) (w : Way) (d : Data) → k < length xs → before p b (drop k xs) w d ≡ record { block = b; rest = drop k xs; way = w; now = d; end = None }
before_inside p b xs k w d h = elim (slice_get_cases xs k).1 [
  | inl i ↦ before_cons p b (drop k xs) w d i.0 (drop (k + 1) xs) (drop_some xs k i.0 i.2)
  | inr q ↦ absurd (omega (arith, h, q.0))
]

-- Where none is left, at the next block.
pub before_past : (p : HardProgram) (b : ℕ) (xs : List Item) (k : ℕ) (w : Way) (d : Data) → length xs ≤ k → before p b (drop k xs) w d ≡ record { block = b + 1; rest = items_of p (b + 1); way = w; now = d; end = None }
before_past p b xs k w d h = before_nil p b (drop k xs) w d (drop_of_length-le xs h)
