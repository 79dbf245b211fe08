-- Pairs that ascend: as an image tells them, and how many there can be.
use Rattle.std.proofs.Common.{◌≡◌, ◌≢◌, ◌≤◌, ◌<◌, ℕ, zero, suc, ◌+◌, ◌*◌, ◌/◌, ◌%◌, arith, ap, refl, sym, ◌∙◌, subst, List, [], ◌∷◌, Bool, true, false, inl, inr, length, get_or, eqb, eqb-true, ⊎_elim}
use Rattle.std.specs.Prelude.{Option, Some, None, ◌⊎◌, ◌==◌, ◌&&◌, ◌||◌, nat_lt}
use Rattle.std.specs.List.{AllByRecursion, IsDistinct, list_any}
use Rattle.std.proofs.lemmas.Bool.{ne_eqb, or_cases}
use Rattle.std.proofs.lemmas.Nat.{div-mul-add, mod-mul-add, mul-add-lt}
use Rattle.std.proofs.lemmas.Map.Keys.{IsDistinct-cons}
use Rattle.std.proofs.lemmas.Map.Steps.{length-le_from_distinct_below}
use Rattle.lint_words.specs.WindowList.{Before, pair_at}
use Rattle.elf_image.specs.Bounds.{is_after, all_ascending}

-- Each pair comes before those behind it.
abbrev pub Rises : List (ℕ × ℕ) → Type 0
Rises [] = Unit {0}
Rises (p ∷ ps) = AllByRecursion (Before p) ps × Rises ps

pub each_from : (P : ℕ × ℕ → Type 0) (ps : List (ℕ × ℕ)) → ((k : ℕ) → k < length ps → P (pair_at ps k)) → AllByRecursion P ps
each_from P [] h = tt
each_from P (p ∷ ps) h = (h 0 (Rattle.std.proofs.Common.zero-lt-suc (length ps)), each_from P ps (λ k l. h (suc k) (Rattle.std.proofs.Common.suc-le-suc l)))

pub rises_from : (ps : List (ℕ × ℕ)) → ((j k : ℕ) → j < k → k < length ps → Before (pair_at ps j) (pair_at ps k)) → Rises ps
rises_from [] h = tt
rises_from (p ∷ ps) h = (
  each_from (Before p) ps (λ k l. h 0 (suc k) (Rattle.std.proofs.Common.zero-lt-suc k) (Rattle.std.proofs.Common.suc-le-suc l)),
  rises_from ps (λ j k l m. h (suc j) (suc k) (Rattle.std.proofs.Common.suc-le-suc l) (Rattle.std.proofs.Common.suc-le-suc m)),
)

-- ---- as an image tells them

after_it : (a b c d : ℕ) → (a < c) ⊎ ((a ≡ c) × (b < d)) → (nat_lt a c || ((a == c) && nat_lt b d)) ≡ true
after_it a b c d (inl h) = grind arith
after_it a b c d (inr h) = grind arith

pub both_true : (x y : Bool) → x ≡ true → y ≡ true → (x && y) ≡ true
both_true true y e f = f
both_true false y e f = absurd (no e)
  where
    no : false ≡ true → ⊥
    no e = cc

-- The pairs come behind the last one, if there is one.
abbrev pub Behind : Option (ℕ × ℕ) → List (ℕ × ℕ) → Type 0
Behind None ps = Unit {0}
Behind (Some l) ps = AllByRecursion (Before l) ps

pub tells : (test : ℕ × ℕ → Bool) (last : Option (ℕ × ℕ)) (ps : List (ℕ × ℕ)) → Behind last ps → AllByRecursion (λ p. test p ≡ true) ps → Rises ps → all_ascending test last ps ≡ true
tells test last [] b t r = refl
tells test None (p ∷ ps) b t r = both_true (is_after None p && test p) (all_ascending test (Some p) ps) t.0 (tells test (Some p) ps r.0 t.1 r.1)
tells test (Some l) (p ∷ ps) b t r = both_true (is_after (Some l) p && test p) (all_ascending test (Some p) ps) (both_true (is_after (Some l) p) (test p) (after_it l.0 l.1 p.0 p.1 b.0) t.0) (tells test (Some p) ps r.0 t.1 r.1)

-- ---- how many there can be

-- A number stands for a pair of places.
pub record Coded (n : ℕ) (place : ℕ → ℕ) (p : ℕ × ℕ) (x : ℕ) : Type 0 where
  pub below : x < n * n
  pub first : place (x / n) ≡ p.0
  pub second : place (x % n) ≡ p.1

not_itself : (p : ℕ × ℕ) → Before p p → ⊥
not_itself p (inl h) = less p.0 h
  where
    less : (a : ℕ) → a < a → ⊥
    less a h = omega arith
not_itself p (inr h) = less p.1 h.1
  where
    less : (a : ℕ) → a < a → ⊥
    less a h = omega arith

module _ (n : ℕ) (place : ℕ → ℕ) (P : ℕ × ℕ → Type 0) (pick : (p : ℕ × ℕ) → P p → (x : ℕ) × Coded n place p x) where
  codes : (ps : List (ℕ × ℕ)) → AllByRecursion P ps → List ℕ
  codes [] h = []
  codes (p ∷ ps) h = (pick p h.0).0 ∷ codes ps h.1

  codes_long : (ps : List (ℕ × ℕ)) (h : AllByRecursion P ps) → length (codes ps h) ≡ length ps
  unfolding codes
  codes_long [] h = refl
  codes_long (p ∷ ps) h = ap (λ (m : ℕ). suc m) (codes_long ps h.1)

  codes_below : (ps : List (ℕ × ℕ)) (h : AllByRecursion P ps) → AllByRecursion (λ x. x < n * n) (codes ps h)
  unfolding codes
  codes_below [] h = tt
  codes_below (p ∷ ps) h = ((pick p h.0).1.below, codes_below ps h.1)

  -- a number stands for one pair alone
  apart : (p q : ℕ × ℕ) (x y : ℕ) → Coded n place p x → Coded n place q y → Before p q → x ≢ y
  apart p q x y c d b e = not_itself q (subst (λ (z : ℕ × ℕ). Before z q) same b)
    where
      same : p ≡ q
      same = pair_same p q (sym c.first ∙ (ap (λ (z : ℕ). place (z / n)) e ∙ d.first)) (sym c.second ∙ (ap (λ (z : ℕ). place (z % n)) e ∙ d.second))
        where
          pair_same : (p q : ℕ × ℕ) → p.0 ≡ q.0 → p.1 ≡ q.1 → p ≡ q
          pair_same (a, b) (c, d) e f = ap (λ (z : ℕ). (z, b)) e ∙ ap (λ (z : ℕ). (c, z)) f

  differ : (p : ℕ × ℕ) (x : ℕ) → Coded n place p x → (ps : List (ℕ × ℕ)) (h : AllByRecursion P ps) → AllByRecursion (Before p) ps → AllByRecursion (λ y. eqb x y ≡ false) (codes ps h)
  unfolding codes
  differ p x c [] h b = tt
  differ p x c (q ∷ ps) h b = (ne_eqb x (pick q h.0).0 (apart p q x (pick q h.0).0 c (pick q h.0).1 b.0), differ p x c ps h.1 b.1)

  distinct : (ps : List (ℕ × ℕ)) (h : AllByRecursion P ps) → Rises ps → IsDistinct eqb (codes ps h)
  unfolding IsDistinct codes
  distinct [] h r = tt
  distinct (p ∷ ps) h r = IsDistinct-cons eqb (pick p h.0).0 (codes ps h.1) (differ p (pick p h.0).0 (pick p h.0).1 ps h.1 r.0) (distinct ps h.1 r.1)

  below_any : (xs : List ℕ) (m : ℕ) → AllByRecursion (λ x. x < m) xs → (q : ℕ) → list_any (eqb q) xs ≡ true → q < m
  below_any [] m h q e = absurd (no e)
    where
      no : false ≡ true → ⊥
      no e = cc
  below_any (x ∷ xs) m h q e = elim (or_cases (eqb q x) (list_any (eqb q) xs) e) [
    | inl k ↦ subst (λ (z : ℕ). z < m) (sym (eqb-true q x k)) h.0
    | inr k ↦ below_any xs m h.1 q k
  ]

  -- pairs of n places that ascend are at most n times n
  pub few_pairs : (ps : List (ℕ × ℕ)) → AllByRecursion P ps → Rises ps → length ps ≤ n * n
  few_pairs ps h r = subst (λ (m : ℕ). m ≤ n * n) (codes_long ps h) (length-le_from_distinct_below (codes ps h) (n * n) (distinct ps h r) (below_any (codes ps h) (n * n) (codes_below ps h)))

pub code : (n : ℕ) (place : ℕ → ℕ) (a b : ℕ) → a < n → b < n → Coded n place (place a, place b) (a * n + b)
code n place a b h k = record { below = mul-add-lt a n b n h k; first = ap place (div-mul-add a n b k); second = ap place (mod-mul-add a n b k) }
