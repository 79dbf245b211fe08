-- Sums of lists of numbers.
use Rattle.std.proofs.Common.{◌≡◌, ℕ, ◌+◌, arith, ◌∙◌, refl, sym, List, [], ◌∷◌, sum}

fold_from : (a : ℕ) (xs : List ℕ) → Rattle.std.proofs.Common.fold ◌+◌ a xs ≡ a + sum xs
fold_from a [] = sym (Rattle.std.proofs.Common.add-zero a)
fold_from a (x ∷ xs) = joined (a + x) (0 + x) (sum xs) (fold_from (a + x) xs) (fold_from (0 + x) xs) refl refl
  where
    joined : (n m s : ℕ) → {u v : ℕ} → u ≡ n + s → v ≡ m + s → n ≡ a + x → m ≡ 0 + x → u ≡ a + v
    joined n m s {u} {v} e f g h = omega arith

pub sum_cons : (x : ℕ) (xs : List ℕ) → sum (x ∷ xs) ≡ x + sum xs
sum_cons x xs = fold_from (0 + x) xs ∙ plain (sum xs)
  where
    plain : (s : ℕ) → 0 + x + s ≡ x + s
    plain s = omega arith
