-- Items of lists: whether one is among them, under filters and searches.
use Rattle.std.proofs.Common.{◌≡◌, ℕ, zero, suc, ◌≤◌, Bool, true, false, List, [], ◌∷◌, ◌++◌, filter, length, Some, None, refl, sym, ap, ◌∙◌, arith, inl, inr, cond}
use Rattle.std.specs.Prelude.{◌⊎◌, find, slice_get}
use Rattle.std.proofs.lemmas.Bool.{false≢true}

abbrev pub Among : {A : Type 0} → A → List A → Type 0
Among a [] = ⊥
Among a (x ∷ xs) = (x ≡ a) ⊎ Among a xs

pub among_at : {A : Type 0} (a : A) (xs : List A) (k : ℕ) → slice_get xs k ≡ Some a → Among a xs
among_at a [] k h = absurd (cc)
among_at a (x ∷ xs) zero h = inl (cc)
among_at a (x ∷ xs) (suc k) h = inr (among_at a xs k h)

pub among_either : {A : Type 0} (a : A) (xs ys : List A) → Among a (xs ++ ys) → Among a xs ⊎ Among a ys
among_either a [] ys h = inr h
among_either a (x ∷ xs) ys (inl e) = inl (inl e)
among_either a (x ∷ xs) ys (inr h) = elim (among_either a xs ys h) [ inl k ↦ inl (inr k) | inr k ↦ inr k ]

-- what a filter keeps passes its test, and was there
pub among_filter : {A : Type 0} (test : A → Bool) (a : A) (xs : List A) → Among a (filter test xs) → Among a xs × (test a ≡ true)
among_filter test a [] h = absurd h
among_filter test a (x ∷ xs) h = by (λ k. among_filter test a xs k) (test x) refl h
  where
    by : (Among a (filter test xs) → Among a xs × (test a ≡ true)) → (b : Bool) → test x ≡ b → Among a (cond b (x ∷ filter test xs) (filter test xs)) → Among a (x ∷ xs) × (test a ≡ true)
    by rest true e (inl s) = (inl s, ap test (sym s) ∙ e)
    by rest true e (inr k) = let r = rest k in (inr r.0, r.1)
    by rest false e k = let r = rest k in (inr r.0, r.1)

pub none_found : {A : Type 0} (test : A → Bool) (xs : List A) (a : A) → find test xs ≡ None → Among a xs → test a ≡ false
none_found test [] a n h = absurd h
none_found test (x ∷ xs) a n h = by (λ k m. none_found test xs a k m) (test x) refl n h
  where
    by : (find test xs ≡ None → Among a xs → test a ≡ false) → (b : Bool) → test x ≡ b → cond b (Some x) (find test xs) ≡ None → Among a (x ∷ xs) → test a ≡ false
    by rest true e k m = absurd (cc)
    by rest false e k (inl s) = ap test (sym s) ∙ e
    by rest false e k (inr m) = rest k m

-- what is found is kept by a filter that asks less
pub found_kept : {A : Type 0} (test other : A → Bool) (xs : List A) (a : A) → ((x : A) → test x ≡ true → other x ≡ true) → find test xs ≡ Some a → 1 ≤ length (filter other xs)
found_kept test other [] a less h = absurd (cc)
found_kept test other (x ∷ xs) a less h = by (λ k. found_kept test other xs a less k) (other x) refl (test x) refl h
  where
    by : (find test xs ≡ Some a → 1 ≤ length (filter other xs)) → (c : Bool) → other x ≡ c → (b : Bool) → test x ≡ b → cond b (Some x) (find test xs) ≡ Some a → 1 ≤ length (cond c (x ∷ filter other xs) (filter other xs))
    by rest true f b e k = omega arith
    by rest false f true e k = absurd (false≢true (sym f ∙ less x e))
    by rest false f false e k = rest k
