-- A list of different elements, all of which are in another list, is not longer than that.
use Rattle.std.proofs.Common.{◌≡◌, ◌≢◌, ◌≤◌, ◌<◌, ℕ, suc, arith, ap, refl, sym, ◌∙◌, List, [], ◌∷◌, ◌++◌, length, get_or, inl, inr}
use Rattle.std.specs.Prelude.{◌⊎◌}

abbrev pub In : {A : Type 0} → A → List A → Type 0
In v [] = ⊥
In v (x ∷ xs) = (x ≡ v) ⊎ In v xs

pub in_left : {A : Type 0} (v : A) (xs ys : List A) → In v xs → In v (xs ++ ys)
in_left v [] ys h = absurd h
in_left v (x ∷ xs) ys (inl e) = inl e
in_left v (x ∷ xs) ys (inr h) = inr (in_left v xs ys h)

pub in_right : {A : Type 0} (v : A) (xs ys : List A) → In v ys → In v (xs ++ ys)
in_right v [] ys h = h
in_right v (x ∷ xs) ys h = inr (in_right v xs ys h)

without : {A : Type 0} (w : A) (xs : List A) → In w xs → List A
without w [] h = []
without w (x ∷ xs) (inl e) = xs
without w (x ∷ xs) (inr h) = x ∷ without w xs h

without_length : {A : Type 0} (w : A) (xs : List A) (h : In w xs) → length xs ≡ suc (length (without w xs h))
unfolding without
without_length w [] h = absurd h
without_length w (x ∷ xs) (inl e) = refl
without_length w (x ∷ xs) (inr h) = ap suc (without_length w xs h)

without_others : {A : Type 0} (w : A) (xs : List A) (h : In w xs) (v : A) → In v xs → v ≢ w → In v (without w xs h)
unfolding without
without_others w [] h v c n = absurd h
without_others w (x ∷ xs) (inl e) v (inl f) n = absurd (n (sym f ∙ e))
without_others w (x ∷ xs) (inl e) v (inr c) n = c
without_others w (x ∷ xs) (inr h) v (inl f) n = inl f
without_others w (x ∷ xs) (inr h) v (inr c) n = inr (without_others w xs h v c n)

abbrev pub Different : {A : Type 0} → List A → Type 0
Different [] = Unit {0}
Different {A} (w ∷ ws) = ((v : A) → In v ws → v ≢ w) × Different ws

pub few : {A : Type 0} (ws xs : List A) → Different ws → ((v : A) → In v ws → In v xs) → length ws ≤ length xs
few [] xs d f = omega arith
few (w ∷ ws) xs d f =
    let h : In w xs = f w (inl refl) in
    more (length ws) (length xs) (length (without w xs h)) (without_length w xs h) (few ws (without w xs h) d.1 (λ v c. without_others w xs h v (f v (inr c)) (d.0 v c)))
  where
    more : (n l m : ℕ) → l ≡ suc m → n ≤ m → suc n ≤ l
    more n l m e h = omega arith

-- An element of a list stands at a place.
pub in_at : {A : Type 0} (d v : A) (ws : List A) → In v ws → (k : ℕ) × ((k < length ws) × (get_or ws k d ≡ v))
in_at d v [] h = absurd h
in_at d v (w ∷ ws) (inl e) = (0, (omega arith, e))
in_at d v (w ∷ ws) (inr h) = let r : (k : ℕ) × ((k < length ws) × (get_or ws k d ≡ v)) = in_at d v ws h in (suc r.0, (omega (arith, r.1.0), r.1.1))

pub different_by : {A : Type 0} (d : A) (ws : List A) → ((j k : ℕ) → j < k → k < length ws → get_or ws j d ≢ get_or ws k d) → Different ws
different_by d [] h = tt
different_by {A} d (w ∷ ws) h = (λ v c e. first v c e, different_by d ws (λ j k l m. h (suc j) (suc k) (omega (arith, l)) (omega (arith, m))))
  where
    first : (v : A) → In v ws → v ≢ w
    first v c e = let r : (k : ℕ) × ((k < length ws) × (get_or ws k d ≡ v)) = in_at d v ws c in h 0 (suc r.0) (up r.0) (later r.0 (length ws) r.1.0) (sym (r.1.1 ∙ e))
      where
        up : (k : ℕ) → 0 < suc k
        up k = omega arith

        later : (k n : ℕ) → k < n → suc k < suc n
        later k n h = omega arith
