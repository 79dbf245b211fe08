-- The words of an array, with zeros for those that are missing.
use Rattle.std.proofs.Common.{◌≡◌, ℕ, zero, suc, ◌<◌, ◌≤◌, List, [], ◌∷◌, ◌++◌, length, take, refl, ap, ◌∙◌, arith, min}
use Rattle.c_meaning.specs.Meaning.{padded}

pub padded_take : (n : ℕ) (ws : List ℕ) → padded n (take n ws) ≡ padded n ws
padded_take zero ws = refl
padded_take (suc n) [] = refl
padded_take (suc n) (w ∷ ws) = ap (λ l. w ∷ l) (padded_take n ws)

pub padded_push : (n : ℕ) (ws : List ℕ) → length ws < n → padded n (ws ++ 0 ∷ []) ≡ padded n ws
padded_push zero ws l = absurd (omega arith)
padded_push (suc n) [] l = refl
padded_push (suc n) (w ∷ ws) l = ap (λ l. w ∷ l) (padded_push n ws (omega arith))

pub padded_all : (n : ℕ) (ws : List ℕ) → length ws ≡ n → ws ≡ padded n ws
padded_all zero [] e = refl
padded_all zero (w ∷ ws) e = absurd (omega arith)
padded_all (suc n) [] e = absurd (omega arith)
padded_all (suc n) (w ∷ ws) e = ap (λ l. w ∷ l) (padded_all n ws (omega arith))
