-- Places for the variables of a function in so many pairs of registers.
use Rattle.std.specs.Prelude.{◌≡◌, ◌≢◌, ◌⊎◌, ℕ, ◌<◌, ◌≤◌, List, Option, Some, None, length, slice_get, slice_index}
use Rattle.std.specs.List.{All, AllPairs, Any, Contains}
use Rattle.std.specs.List.Sorted.{IsNonDecreasingBy}
use Rattle.mid_blocks.specs.declared.places.Place.{Place}
use Rattle.register_halves.specs.declared.gather.Span.{Span}
use Rattle.register_halves.specs.Spans.{IsSpan}
use Rattle.mid_blocks.specs.declared.code.MidFunction.{MidFunction}
use Rattle.mid_blocks.specs.declared.places.Place.TheVariants.{Pair, Slot}
use Rattle.mid_blocks.specs.declared.places.Places.{Places}
use Rattle.mid_blocks.specs.Valid.{ValidFunction}
use Rattle.mid_blocks.specs.Liveness.{IsLive, IsLiveAcross, PlaceOf, PlacesFit, own_slot}

-- a position lies in the span of a variable: the variable is live there or before, and there or behind
pub record InSpan (f : MidFunction) (v at : ℕ) : Type 0 where
  pub from : ℕ
  pub to : ℕ
  pub live_from : IsLive f v from
  pub live_to : IsLive f v to
  pub above : from ≤ at
  pub below : at ≤ to

-- a variable that is live across no Call
abbrev pub IsLocal : MidFunction → ℕ → Type 0
IsLocal f v = (at : ℕ) → IsLiveAcross f v at → ⊥

-- at every position at most so many spans of such variables overlap
abbrev pub FewOverlap : MidFunction → ℕ → Type 0
FewOverlap f most = (at : ℕ) (vs : List ℕ) → AllPairs ◌≢◌ vs → All (λ v. IsLocal f v × InSpan f v at) vs → length vs ≤ most

-- in a valid function with at most so many variables, at most so many spans overlap
abbrev pub FewVariables : Type 0
FewVariables = (f : MidFunction) → ValidFunction f → (most : ℕ) → f.variables ≤ most → FewOverlap f most

-- places that fit, in these pairs; and where the pairs are enough for the spans, only variables that are live across a Call are in slots
pub record AreAssigned (f : MidFunction) (pairs : ℕ) (places : Places) : Type 0 where
  pub fit : PlacesFit f places
  pub in_pairs : (v pair : ℕ) → PlaceOf places v (Pair pair) → pair < pairs
  pub none_spilled : FewOverlap f pairs → (v slot : ℕ) → IsLocal f v → PlaceOf places v (Slot slot) → ⊥

-- the spans of the variables that are live across no Call, by ascending start
pub record AreLocals (f : MidFunction) (spans : List Span) : Type 0 where
  pub each : All (λ s. IsSpan f s × IsLocal f s.variable × (s.variable < f.variables)) spans
  pub every : (v at : ℕ) → IsLocal f v → IsLive f v at → Any (λ s. s.variable ≡ v) spans
  pub distinct : AllPairs (λ s t. s.variable ≢ t.variable) spans
  pub sorted : IsNonDecreasingBy (λ s. s.from) spans

-- slots for the variables that are live across a Call, and pair 0 for the others
pub record IsStart (f : MidFunction) (places : List Place) : Type 0 where
  pub one_each : length places ≡ f.variables
  pub own : (v slot : ℕ) → slice_get places v ≡ Some (Slot slot) → slot ≡ own_slot f v
  pub first : (v k : ℕ) → slice_get places v ≡ Some (Pair k) → k ≡ 0
  pub across : (v at k : ℕ) → IsLiveAcross f v at → slice_get places v ≡ Some (Pair k) → ⊥
  pub only_across : (v slot : ℕ) → IsLocal f v → slice_get places v ≡ Some (Slot slot) → ⊥

-- a pair that is free at a position, or none where all are taken
abbrev pub IsFreePair : List ℕ → ℕ → Option ℕ → Type 0
IsFreePair free at None = (k : ℕ) → k < length free → at < slice_index free k
IsFreePair free at (Some k) = (k < length free) × (slice_index free k ≤ at)

-- what taking places one after the other leads to: of the variables of these spans no two share a pair where they are live together,
-- and where the pairs are enough, none is in a slot
pub record IsTaken (f : MidFunction) (pairs : ℕ) (locals : List Span) (places : List Place) : Type 0 where
  pub one_each : length places ≡ f.variables
  pub own : (v slot : ℕ) → slice_get places v ≡ Some (Slot slot) → slot ≡ own_slot f v
  pub in_pairs : (v k : ℕ) → slice_get places v ≡ Some (Pair k) → k < pairs
  pub across : (v at k : ℕ) → IsLiveAcross f v at → slice_get places v ≡ Some (Pair k) → ⊥
  pub apart : (s t : Span) (k : ℕ) → Contains locals s → Contains locals t → s.variable ≢ t.variable → slice_get places s.variable ≡ Some (Pair k) →
      slice_get places t.variable ≡ Some (Pair k) → (s.to < t.from) ⊎ (t.to < s.from)
  pub none_spilled : FewOverlap f pairs → (v slot : ℕ) → IsLocal f v → slice_get places v ≡ Some (Slot slot) → ⊥
