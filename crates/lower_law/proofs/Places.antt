-- The places of names in a list of variables are apart, and below its length.
use Rattle.std.proofs.Common.{◌≡◌, ℕ, suc, ◌+◌, ◌<◌, ◌≤◌, Bool, true, false, List, [], ◌∷◌, length, Some, refl, sym, ◌∙◌, if◌then◌else◌, ◌==◌, arith}
use Rattle.std.proofs.lemmas.Bool.{eqb-true}
use Rattle.lower_rules.specs.Programs.{Variable, place_of}

place_from : (name i j : ℕ) (vs : List Variable) → place_of name i vs ≡ Some j → i ≤ j
place_from name i j [] e = cc
place_from name i j (v ∷ vs) e = by (place_from name (suc i) j vs) (v.name == name) e
  where
    by : (place_of name (suc i) vs ≡ Some j → suc i ≤ j) → (c : Bool) → (if c then Some i else place_of name (suc i) vs) ≡ Some j → i ≤ j
    by ih true e' = let x : i ≡ j = cc in omega (arith, x)
    by ih false e' = omega (arith, ih e')

pub place_below : (name i j : ℕ) (vs : List Variable) → place_of name i vs ≡ Some j → j < i + length vs
place_below name i j [] e = cc
place_below name i j (v ∷ vs) e = by (place_below name (suc i) j vs) (v.name == name) e
  where
    by : (place_of name (suc i) vs ≡ Some j → j < suc i + length vs) → (c : Bool) → (if c then Some i else place_of name (suc i) vs) ≡ Some j → j < i + length (v ∷ vs)
    by ih true e' = let x : i ≡ j = cc in omega (arith, x)
    by ih false e' = omega (arith, ih e')

pub place_apart : (m n i j : ℕ) (vs : List Variable) → place_of m i vs ≡ Some j → place_of n i vs ≡ Some j → m ≡ n
place_apart m n i j [] e f = cc
place_apart m n i j (v ∷ vs) e f = by (place_apart m n (suc i) j vs) (v.name == m) (v.name == n) refl refl e f
  where
    by : (place_of m (suc i) vs ≡ Some j → place_of n (suc i) vs ≡ Some j → m ≡ n) → (b c : Bool) → (v.name == m) ≡ b → (v.name == n) ≡ c → (if b then Some i else place_of m (suc i) vs) ≡ Some j → (if c then Some i else place_of n (suc i) vs) ≡ Some j → m ≡ n
    by ih true true p q e' f' = sym (eqb-true v.name m p) ∙ eqb-true v.name n q
    by ih true false p q e' f' = let x : i ≡ j = cc in absurd (omega (arith, x, place_from n (suc i) j vs f'))
    by ih false true p q e' f' = let x : i ≡ j = cc in absurd (omega (arith, x, place_from m (suc i) j vs e'))
    by ih false false p q e' f' = ih e' f'
