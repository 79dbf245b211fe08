-- The far form by lists, as it is built. It serves private contracts alone.
use Rattle.std.specs.Prelude.{◌≡◌, ◌<◌, ℕ, ◌+◌, Bool, ◌==◌, ◌||◌, false, nat_lt, if◌then◌else◌, min, Option, Some, None, List, [], ◌∷◌, length, map}
use Rattle.std.specs.Prelude.{slice_index, get_or, All}
use Rattle.std.specs.List.{range_with_len}
use Rattle.hard_items.specs.declared.code.Fix.{Fix}
use Rattle.hard_items.specs.declared.code.Fix.TheVariants.{Plain, Block}
use Rattle.hard_items.specs.declared.code.Item.{Item}
use Rattle.hard_items.specs.declared.code.HardBlock.{HardBlock}
use Rattle.hard_items.specs.declared.code.HardProgram.{HardProgram}
use Rattle.far_branches.specs.Widen.{first_goal, far_of}

-- The list has a number.
abbrev pub has : ℕ → List ℕ → Bool
has c [] = false
has c (x ∷ xs) = (x == c) || has c xs

-- The first block of the function of each block, from a number on, where it is marked which blocks are first ones.
abbrev pub starts_by : (at last : ℕ) → List Bool → List ℕ
starts_by at last [] = []
starts_by at last (m ∷ ms) = (if m then at else last) ∷ starts_by (at + 1) (if m then at else last) ms

-- A count that stands still where it is too large.
abbrev pub counted : ℕ → ℕ
counted n = min n 30001

-- The words of the blocks of a function, by the first block of the function of each block, from a number on.
abbrev pub sum_by_start : (starts : List ℕ) → (start b : ℕ) → List HardBlock → ℕ
sum_by_start starts start b [] = 0
sum_by_start starts start b (k ∷ more) = (if slice_index starts b == start then length k.items + 7 else 0) + sum_by_start starts start (b + 1) more

-- The words of each function, at the number of its first block.
pub record SumsAre (starts : List ℕ) (blocks : List HardBlock) (sums : List ℕ) : Type 0 where
  pub many : length sums ≡ length blocks
  pub each : (s : ℕ) → s < length blocks → slice_index sums s ≡ counted (sum_by_start starts s 0 blocks)

-- The goals of far branches, by the first block of each block's function and the words of each function.
abbrev pub fars_by : (starts sums : List ℕ) → (b : ℕ) → List HardBlock → List (Option ℕ)
fars_by starts sums b [] = []
fars_by starts sums b (k ∷ more) = (if nat_lt 30000 (slice_index sums (slice_index starts b)) then first_goal b k.items else None) ∷ fars_by starts sums (b + 1) more

-- The places of blocks by the goals of their far branches, and last how many blocks there are.
abbrev pub one_if : Option ℕ → ℕ
one_if None = 0
one_if (Some t) = 1

abbrev pub places_by : ℕ → List (Option ℕ) → List ℕ
places_by at [] = at ∷ []
places_by at (o ∷ os) = at ∷ places_by (at + 1 + one_if o) os

-- The block that a field names has a place.
abbrev pub PlaceThere : ℕ → Fix → Type 0
PlaceThere n (Block t) = t < n
PlaceThere n fix = Unit {0}

-- So have all that a block names.
pub record AllThere (n : ℕ) (k : HardBlock) : Type 0 where
  pub items : All (λ i. PlaceThere n i.fix) k.items
  pub successors : All (λ c. c < n) k.successors

-- The field that names the goal of a far branch, if there is one.
abbrev pub goal_fix : Option ℕ → Fix
goal_fix None = Plain
goal_fix (Some t) = Block t

-- The goals of the far branches of a program's blocks.
abbrev pub far_list : HardProgram → List (Option ℕ)
far_list p = map (far_of p) (range_with_len 0 (length p.blocks))
