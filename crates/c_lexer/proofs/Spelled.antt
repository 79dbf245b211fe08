-- The map of the numbers of names against the list of their spellings.
use Rattle.std.proofs.Common.{◌≡◌, ◌+◌, ◌++◌, ◌||◌, ℕ, Bool, true, false, cond, if◌then◌else◌, not, List, [], ◌∷◌, length, map, refl, sym, ap, subst, ◌∙◌, bytes_eq, Option, Some, None, Result, Ok, Err, OnOk, inl, inr, arith}
use Rattle.std.specs.Borrow.{Bor}
use Rattle.std.specs.BTreeMap.{is_at}
use Rattle.std.specs.List.{position_or_len, list_any}
use Rattle.std.proofs.lemmas.Bool.{cases_Bool, false≢true}
use Rattle.std.proofs.lemmas.Map.Text.{is_eq-slice_cmp}
use Rattle.std.proofs.lemmas.Slice.Eq.{bytes_eq-Decides}
use Rattle.c_lexer.specs.Names.{name_cmp, number_among}
use Rattle.c_lexer.specs.Tokens.{number_of, with_name}

map-push : {A B : Type 0} (f : A → B) (xs : List A) (x : A) → map f (xs ++ x ∷ []) ≡ map f xs ++ f x ∷ []
map-push f [] x = refl
map-push f (y ∷ ys) x = ap (λ zs. f y ∷ zs) (map-push f ys x)

-- spellings with one more slice
pub push-spelling : (xs : List (Bor (List ℕ))) (x : Bor (List ℕ)) → map (λ (k : Bor (List ℕ)). k.now) (xs ++ x ∷ []) ≡ map (λ (k : Bor (List ℕ)). k.now) xs ++ x.now ∷ []
push-spelling = map-push (λ (k : Bor (List ℕ)). k.now)

-- the number of a spelling among some: what its place says where a test finds it
numbered : Bool → ℕ → Option ℕ
numbered b n = if b then Some n else None

module _ (test : List ℕ → Bool) where
  -- where none passes, the place is behind the end
  place_past : (xs : List (List ℕ)) → list_any test xs ≡ false → position_or_len test xs ≡ length xs
  place_past [] h = refl
  place_past (x ∷ xs) h = elim (cases_Bool (test x)) [
    | inl e ↦ absurd (false≢true (sym h ∙ ap (λ b. b || list_any test xs) e))
    | inr e ↦ (let more : list_any test xs ≡ false = sym (ap (λ b. b || list_any test xs) e) ∙ h in
        ap (λ b. cond (not b) (1 + position_or_len test xs) 0) e ∙ ap (λ n. 1 + n) (place_past xs more) ∙ (let s : 1 + length xs ≡ length (x ∷ xs) = omega arith in s))
  ]

  -- where one passes, one more changes nothing
  any_push : (xs : List (List ℕ)) (s : List ℕ) → list_any test xs ≡ true → list_any test (xs ++ s ∷ []) ≡ true
  any_push [] s h = absurd (false≢true h)
  any_push (x ∷ xs) s h = elim (cases_Bool (test x)) [
    | inl e ↦ ap (λ b. b || list_any test (xs ++ s ∷ [])) e
    | inr e ↦ ap (λ b. b || list_any test (xs ++ s ∷ [])) e ∙ any_push xs s (sym (ap (λ b. b || list_any test xs) e) ∙ h)
  ]

  place_push : (xs : List (List ℕ)) (s : List ℕ) → list_any test xs ≡ true → position_or_len test (xs ++ s ∷ []) ≡ position_or_len test xs
  place_push [] s h = absurd (false≢true h)
  place_push (x ∷ xs) s h = elim (cases_Bool (test x)) [
    | inl e ↦ ap (λ b. cond (not b) (1 + position_or_len test (xs ++ s ∷ [])) 0) e ∙ sym (ap (λ b. cond (not b) (1 + position_or_len test xs) 0) e)
    | inr e ↦ ap (λ n. cond (not (test x)) (1 + n) 0) (place_push xs s (sym (ap (λ b. b || list_any test xs) e) ∙ h))
  ]

  -- where none passes, one more is found if it passes itself
  any_last : (xs : List (List ℕ)) (s : List ℕ) (b : Bool) → list_any test xs ≡ false → test s ≡ b → list_any test (xs ++ s ∷ []) ≡ b
  any_last [] s b h e = elim (cases_Bool b) [
    | inl t ↦ ap (λ a. a || false) (e ∙ t) ∙ sym t
    | inr f ↦ ap (λ a. a || false) (e ∙ f) ∙ sym f
  ]
  any_last (x ∷ xs) s b h e = elim (cases_Bool (test x)) [
    | inl t ↦ absurd (false≢true (sym h ∙ ap (λ a. a || list_any test xs) t))
    | inr f ↦ ap (λ a. a || list_any test (xs ++ s ∷ [])) f ∙ any_last xs s b (sym (ap (λ a. a || list_any test xs) f) ∙ h) e
  ]

  place_last : (xs : List (List ℕ)) (s : List ℕ) → list_any test xs ≡ false → test s ≡ true → position_or_len test (xs ++ s ∷ []) ≡ length xs
  place_last [] s h e = ap (λ b. cond (not b) 1 0) e
  place_last (x ∷ xs) s h e = elim (cases_Bool (test x)) [
    | inl t ↦ absurd (false≢true (sym h ∙ ap (λ a. a || list_any test xs) t))
    | inr f ↦ (let more : list_any test xs ≡ false = sym (ap (λ a. a || list_any test xs) f) ∙ h in
        ap (λ b. cond (not b) (1 + position_or_len test (xs ++ s ∷ [])) 0) f ∙ ap (λ n. 1 + n) (place_last xs s more e) ∙ (let q : 1 + length xs ≡ length (x ∷ xs) = omega arith in q))
  ]

-- the map's look-up finds what has the same bytes
at_is : (s q : Bor (List ℕ)) → is_at (name_cmp s) q ≡ bytes_eq s.now q.now
at_is s q = is_eq-slice_cmp s.now q.now

same_bytes : (a b : List ℕ) → bytes_eq a b ≡ bytes_eq b a
same_bytes a b = elim (cases_Bool (bytes_eq a b)) [
  | inl t ↦ t ∙ sym ((bytes_eq-Decides b a).1 (sym ((bytes_eq-Decides a b).0 t)))
  | inr f ↦ elim (cases_Bool (bytes_eq b a)) [
    | inl u ↦ absurd (false≢true (sym f ∙ (bytes_eq-Decides a b).1 (sym ((bytes_eq-Decides b a).0 u))))
    | inr g ↦ f ∙ sym g
  ]
]

module _ (names : List (List ℕ)) (s : Bor (List ℕ)) (none : list_any (bytes_eq s.now) names ≡ false) where
  -- the numbers with a new name are the numbers so far and its own
  pub number_push : (q : Bor (List ℕ)) → number_among (names ++ s.now ∷ []) q.now ≡ cond (is_at (name_cmp s) q) (Some (length names)) (number_among names q.now)
  number_push q = elim (cases_Bool (list_any (bytes_eq q.now) names)) [
    | inl t ↦ (let apart : bytes_eq s.now q.now ≡ false = elim (cases_Bool (bytes_eq s.now q.now)) [
      | inl u ↦ absurd (false≢true (sym none ∙ subst (λ x. list_any (bytes_eq x) names ≡ true) (sym ((bytes_eq-Decides s.now q.now).0 u)) t))
      | inr f ↦ f
    ] in
        ap (λ b. if b then Some (number_of (names ++ s.now ∷ []) q.now) else None) (any_push (bytes_eq q.now) names s.now t) ∙ ap Some (place_push (bytes_eq q.now) names s.now t)
        ∙ sym (ap (λ b. cond b (Some (length names)) (number_among names q.now)) (at_is s q ∙ apart) ∙ ap (λ b. if b then Some (number_of names q.now) else None) t))
    | inr f ↦ elim (cases_Bool (bytes_eq s.now q.now)) [
      | inl u ↦ (let same : bytes_eq q.now s.now ≡ true = same_bytes q.now s.now ∙ u in
          ap (λ b. if b then Some (number_of (names ++ s.now ∷ []) q.now) else None) (any_last (bytes_eq q.now) names s.now true f same) ∙ ap Some (place_last (bytes_eq q.now) names s.now f same)
          ∙ sym (ap (λ b. cond b (Some (length names)) (number_among names q.now)) (at_is s q ∙ u)))
      | inr g ↦ (let other : bytes_eq q.now s.now ≡ false = same_bytes q.now s.now ∙ g in
          ap (λ b. if b then Some (number_of (names ++ s.now ∷ []) q.now) else None) (any_last (bytes_eq q.now) names s.now false f other)
          ∙ sym (ap (λ b. cond b (Some (length names)) (number_among names q.now)) (at_is s q ∙ g) ∙ ap (λ b. if b then Some (number_of names q.now) else None) f))
    ]
  ]

  -- a new name has the next number, and is added
  pub number_new : number_of names s.now ≡ length names
  number_new = place_past (bytes_eq s.now) names none

  pub with_new : with_name names s.now ≡ names ++ s.now ∷ []
  with_new = ap (λ b. if b then names else names ++ s.now ∷ []) none

-- a spelling without a number is new
pub is_new : (names : List (List ℕ)) (s : List ℕ) → number_among names s ≡ None → list_any (bytes_eq s) names ≡ false
is_new names s h = elim (cases_Bool (list_any (bytes_eq s) names)) [
  | inl t ↦ absurd (some_none (sym (ap (λ b. if b then Some (number_of names s) else None) t) ∙ h))
  | inr f ↦ f
]
  where
    some_none : {n : ℕ} → ◌≡◌ {A = Option ℕ} (Some n) None → ⊥
    some_none e = cc

-- one with a number is not, and has this number
pub has_number : (names : List (List ℕ)) (s : List ℕ) (n : ℕ) → number_among names s ≡ Some n → (n ≡ number_of names s) × (with_name names s ≡ names)
has_number names s n h = elim (cases_Bool (list_any (bytes_eq s) names)) [
  | inl t ↦ (some_is (sym h ∙ ap (λ b. if b then Some (number_of names s) else None) t), ap (λ b. if b then names else names ++ s ∷ []) t)
  | inr f ↦ absurd (none_some (sym (ap (λ b. if b then Some (number_of names s) else None) f) ∙ h))
]
  where
    some_is : {m k : ℕ} → ◌≡◌ {A = Option ℕ} (Some m) (Some k) → m ≡ k
    some_is e = cc

    none_some : {m : ℕ} → ◌≡◌ {A = Option ℕ} None (Some m) → ⊥
    none_some e = cc

-- what two facts give after an `Ok` is a fact after it
pub both_ok : {T E P Q R : Type 0} (r : Result T E) → OnOk r P → OnOk r Q → (P → Q → R) → OnOk r R
both_ok (Ok x) p q f = f p q
both_ok (Err e) p q f = tt
