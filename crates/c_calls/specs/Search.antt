-- How a search marks what it comes to, for private contracts alone. A name is marked where the stamp of the search stands under it.
use Rattle.std.specs.Prelude.{◌≡◌, ℕ, ◌+◌, List, [], ◌∷◌, ◌++◌, ◌==◌, if◌then◌else◌, length, slice_index_or, All, Contains, ◌⊎◌}

-- how many places have another mark
abbrev pub unmarked : ℕ → List ℕ → ℕ
unmarked stamp [] = 0
unmarked stamp (m ∷ ms) = (if m == stamp then 0 else 1) + unmarked stamp ms

-- each of the names is marked, and those that weren't before wait
pub record Marked (names : List ℕ) (stamp : ℕ) (marks waiting marks' waiting' : List ℕ) : Type 0 where
  pub long : length marks' ≡ length marks
  pub each : (x : ℕ) → Contains names x → slice_index_or marks' x 0 ≡ stamp
  pub others : (x : ℕ) → (slice_index_or marks' x 0 ≡ slice_index_or marks x 0) ⊎ ((slice_index_or marks' x 0 ≡ stamp) × Contains names x × Contains waiting' x)
  pub more : (new : List ℕ) × (waiting' ≡ waiting ++ new) × All (Contains names) new
  pub count : length waiting' + unmarked stamp marks' ≡ length waiting + unmarked stamp marks
