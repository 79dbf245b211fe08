-- The edges of a graph of blocks, seen from where they lead; these definitions serve private contracts alone.
use Rattle.std.specs.Prelude.{◌≡◌, ◌<◌, ◌≤◌, ℕ, ◌+◌, Bool, false, Some, nat_le, ◌==◌, if◌then◌else◌, List, [], ◌∷◌, ◌++◌, map, length, slice_get}
use Rattle.std.specs.Prelude.{slice_index, slice_set, get_or, replicate}
use Rattle.std.specs.List.{list_any}
use Rattle.sign_law.specs.Graph.{IsSucc, HasTwo}
use Rattle.hard_items.specs.declared.code.Mark.{Mark}
use Rattle.sign_law.specs.Signs.{AreLabels, AreFirst, IsSigned}
use Rattle.sign_law.specs.Marks.{head_of}
use Rattle.sign_law.specs.Search.{label_at}
use Rattle.signature_assign.specs.Settle.{IsGraph}

-- lists of which each that is named here has one more word
abbrev pub added : ℕ → List ℕ → List (List ℕ) → List (List ℕ)
added p [] lists = lists
added p (s ∷ ss) lists = added p ss (slice_set lists s (get_or lists s [] ++ p ∷ []))

-- the same for block after block, with its successors
abbrev pub turned : ℕ → List (List ℕ) → List (List ℕ) → List (List ℕ)
turned p [] lists = lists
turned p (next ∷ rest) lists = turned (p + 1) rest (added p next lists)

-- the lists of predecessors
abbrev pub backward : List (List ℕ) → List (List ℕ)
backward successors = turned 0 successors (replicate (length successors) [])

-- which have at least two
abbrev pub twos : List (List ℕ) → List Bool
twos lists = map (λ before. nat_le 2 (length before)) lists

-- successors exist, and each is listed once
pub record AreEdges (successors : List (List ℕ)) : Type 0 where
  pub within : (u w : ℕ) → IsSucc successors u w → w < length successors
  pub ascend : (u k c d : ℕ) → slice_get (get_or successors u []) k ≡ Some c → slice_get (get_or successors u []) (k + 1) ≡ Some d → c < d

-- the first predecessor of a block that has one
abbrev pub first_before : List (List ℕ) → ℕ → ℕ
first_before predecessors w = slice_index (get_or predecessors w []) 0

-- all that the numbers are made of
pub record IsKnown (successors predecessors : List (List ℕ)) (two : List Bool) (labels : List ℕ) : Type 0 where
  pub graph : IsGraph successors predecessors two (length two)
  pub few : length two ≤ 65535
  pub first : AreFirst (IsSucc successors) (first_before predecessors)
  pub labels_are : AreLabels (IsSucc successors) (label_at (length two) labels)
  pub one : (p q w : ℕ) → length (get_or predecessors w []) ≤ 1 → IsSucc successors p w → IsSucc successors q w → p ≡ q
  pub two_of : (w : ℕ) → 2 ≤ length (get_or predecessors w []) → HasTwo (IsSucc successors) w

-- the marks of the blocks
pub record AreMarked (successors : List (List ℕ)) (n : ℕ) (marks : List Mark) : Type 0 where
  pub one_each : length marks ≡ n
  pub signed : (u : ℕ) → u < n → IsSigned (IsSucc successors) u (head_of (get_or marks u (record { s = 0; d = 0; fan = false; adjust = 0 })))
