-- What is left of a list by marks: where each item came from, and how many there are.
use Rattle.std.proofs.Common.{◌≡◌, ℕ, zero, suc, ◌+◌, ◌<◌, ◌≤◌, Bool, true, false, List, [], ◌∷◌, length, Some, refl, ap, arith}
use Rattle.std.specs.Prelude.{slice_get}
use Rattle.std.proofs.lemmas.Bool.{false≢true}
use Rattle.mid_blocks.specs.Pruned.{is_marked, marked_before, marked}

-- where an item of what is left stood
pub record Source {A : Type 0} (bs : List Bool) (xs : List A) (i : ℕ) (x : A) : Type 0 where
  pub at : ℕ
  pub kept : is_marked bs at ≡ true
  pub is : slice_get xs at ≡ Some x
  pub new : marked_before bs at ≡ i

pub source : {A : Type 0} (bs : List Bool) (xs : List A) (i : ℕ) (x : A) → slice_get (marked bs xs) i ≡ Some x → Source bs xs i x
source [] xs i x h = absurd (cc)
source (b ∷ bs) [] i x h = absurd (cc)
source (true ∷ bs) (y ∷ xs) zero x h = record { at = 0; kept = refl; is = h; new = refl }
source (true ∷ bs) (y ∷ xs) (suc i) x h = let s = source bs xs i x h in record { at = suc s.at; kept = s.kept; is = s.is; new = ap suc s.new }
source (false ∷ bs) (y ∷ xs) i x h = let s = source bs xs i x h in record { at = suc s.at; kept = s.kept; is = s.is; new = s.new }

pub before_below : {A : Type 0} (bs : List Bool) (xs : List A) (i : ℕ) → is_marked bs i ≡ true → i < length xs → marked_before bs i < length (marked bs xs)
before_below [] xs i h lt = absurd (false≢true h)
before_below (b ∷ bs) [] i h lt = absurd (omega arith)
before_below (true ∷ bs) (x ∷ xs) zero h lt = omega arith
before_below (false ∷ bs) (x ∷ xs) zero h lt = absurd (false≢true h)
before_below (true ∷ bs) (x ∷ xs) (suc i) h lt = omega (arith, before_below bs xs i h (omega (arith, lt)))
before_below (false ∷ bs) (x ∷ xs) (suc i) h lt = before_below bs xs i h (omega (arith, lt))

-- two that are kept have two numbers
pub before_apart : (bs : List Bool) (i j : ℕ) → is_marked bs i ≡ true → is_marked bs j ≡ true → marked_before bs i ≡ marked_before bs j → i ≡ j
before_apart [] i j h k e = absurd (false≢true h)
before_apart (true ∷ bs) zero zero h k e = refl
before_apart (true ∷ bs) zero (suc j) h k e = absurd (omega (arith, e))
before_apart (true ∷ bs) (suc i) zero h k e = absurd (omega (arith, e))
before_apart (true ∷ bs) (suc i) (suc j) h k e = ap suc (before_apart bs i j h k (omega (arith, e)))
before_apart (false ∷ bs) zero j h k e = absurd (false≢true h)
before_apart (false ∷ bs) (suc i) zero h k e = absurd (false≢true k)
before_apart (false ∷ bs) (suc i) (suc j) h k e = ap suc (before_apart bs i j h k e)

pub before_first : (bs : List Bool) → marked_before bs 0 ≡ 0
before_first [] = refl
before_first (b ∷ bs) = refl

-- a count of what is left is at most the count of all
abbrev pub total : {A : Type 0} → (A → ℕ) → List A → ℕ
total w [] = 0
total w (x ∷ xs) = w x + total w xs

pub total_kept : {A : Type 0} (w : A → ℕ) (bs : List Bool) (xs : List A) → total w (marked bs xs) ≤ total w xs
total_kept w [] xs = omega arith
total_kept w (b ∷ bs) [] = omega arith
total_kept w (true ∷ bs) (x ∷ xs) = omega (arith, total_kept w bs xs)
total_kept w (false ∷ bs) (x ∷ xs) = omega (arith, total_kept w bs xs)
