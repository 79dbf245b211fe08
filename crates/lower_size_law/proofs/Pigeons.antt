-- A list without repetition is at most as long as one in which its numbers stand.
use Rattle.std.proofs.Common.{◌≡◌, ℕ, suc, ◌+◌, ◌<◌, ◌≤◌, Bool, true, false, List, [], ◌∷◌, length, refl, ap, arith, ⊎_elim, ◌==◌}
use Rattle.std.specs.Prelude.{nat_le}
use Rattle.std.proofs.lemmas.Bool.{eq-eqb, le-leb, lt-leb, cases_lt}
use Rattle.mid_blocks.specs.Pruned.{is_marked, marked}
use Rattle.lower_valid_law.proofs.Aims.{one_if, other}
use Rattle.lower_size_law.proofs.Reach.{count}

-- how many of the numbers are at least k
abbrev above : ℕ → List ℕ → ℕ
above k [] = 0
above k (z ∷ zs) = one_if (nat_le k z) + above k zs

above_most : (k : ℕ) (zs : List ℕ) → above k zs ≤ length zs
above_most k [] = omega arith
above_most k (z ∷ zs) = omega (arith, one (nat_le k z), above_most k zs)
  where
    one : (b : Bool) → one_if b ≤ 1
    one true = omega arith
    one false = omega arith

split_one : (k z : ℕ) → one_if (z == k) + one_if (nat_le (suc k) z) ≤ one_if (nat_le k z)
split_one k z = ⊎_elim
    (λ (lt : z < k). omega (arith, other z k (λ e. absurd (omega (arith, e, lt))), ap one_if (lt-leb (suc k) z (omega (arith, lt)))))
    (λ (le : k ≤ z). ⊎_elim
    (λ (past : k < z). omega (arith, other z k (λ e. absurd (omega (arith, e, past))), ap one_if (le-leb (suc k) z (omega (arith, past))), ap one_if (le-leb k z le)))
    (λ (up : z ≤ k). let e : z ≡ k = omega (arith, le, up) in omega (arith, ap one_if (eq-eqb z k e), ap one_if (lt-leb (suc k) z (omega (arith, up))), ap one_if (le-leb k z le)))
    (cases_lt k z))
    (cases_lt z k)

split : (k : ℕ) (zs : List ℕ) → count k zs + above (suc k) zs ≤ above k zs
split k [] = omega arith
split k (z ∷ zs) = omega (arith, split_one k z, split k zs)

fewer : {A : Type 0} (k : ℕ) (bs : List Bool) (xs : List A) (zs : List ℕ) → ((i : ℕ) → is_marked bs i ≡ true → 1 ≤ count (k + i) zs) → length (marked bs xs) ≤ above k zs
fewer k [] xs zs h = omega arith
fewer k (b ∷ bs) [] zs h = omega arith
fewer k (true ∷ bs) (x ∷ xs) zs h =
    let rest = fewer (suc k) bs xs zs (λ i e. let same : k + suc i ≡ suc k + i = omega arith in omega (arith, ap (λ n. count n zs) same, h (suc i) e)) in
    let same : k + 0 ≡ k = omega arith in
    omega (arith, split k zs, rest, h 0 refl, ap (λ n. count n zs) same)
fewer k (false ∷ bs) (x ∷ xs) zs h =
    let rest = fewer (suc k) bs xs zs (λ i e. let same : k + suc i ≡ suc k + i = omega arith in omega (arith, ap (λ n. count n zs) same, h (suc i) e)) in
    omega (arith, split k zs, rest)

pub kept_few : {A : Type 0} (bs : List Bool) (xs : List A) (zs : List ℕ) → ((i : ℕ) → is_marked bs i ≡ true → 1 ≤ count i zs) → length (marked bs xs) ≤ length zs
kept_few bs xs zs h = omega (arith, fewer 0 bs xs zs (λ i e. let same : 0 + i ≡ i = omega arith in omega (arith, ap (λ n. count n zs) same, h i e)), above_most 0 zs)
