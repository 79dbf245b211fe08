-- Where the variables of a function are live, and places that fit them.
use Rattle.std.specs.Prelude.{◌≡◌, ◌≢◌, ℕ, ◌+◌, ◌-◌, ◌<◌, ◌≤◌, List, length, Option, Some, slice_get, Contains, nat_lt, if◌then◌else◌}
use Rattle.mid_blocks.specs.declared.code.MidEnd.TheVariants.{Call}
use Rattle.mid_blocks.specs.declared.code.MidFunction.{MidFunction}
use Rattle.mid_blocks.specs.declared.places.Place.{Place}
use Rattle.mid_blocks.specs.declared.places.Place.TheVariants.{Pair, Slot}
use Rattle.mid_blocks.specs.declared.places.Places.{Places}
use Rattle.mid_blocks.specs.Lines.{Line, End, line_reads, line_writes, lines, leads_to}

-- the line at a position
abbrev pub LineAt : MidFunction → ℕ → Line → Type 0
LineAt f at line = slice_get (lines f) at ≡ Some line

-- from a position a path leads to a read of the variable with no write of it before; a line reads before it writes
pub data IsWanted (f : MidFunction) (v : ℕ) : ℕ → Type 0 where
  here : (at : ℕ) (line : Line) → LineAt f at line → Contains (line_reads line) v → IsWanted f v at
  later : (at next : ℕ) (line : Line) → LineAt f at line → line_writes line ≢ Some v → Contains (leads_to f at line) next → IsWanted f v next → IsWanted f v at

-- a variable is live at a position that writes it, and where it is wanted; a parameter is live at position 0
pub data IsLive (f : MidFunction) (v : ℕ) (at : ℕ) : Type 0 where
  written : (line : Line) → LineAt f at line → line_writes line ≡ Some v → IsLive f v at
  wanted : IsWanted f v at → IsLive f v at
  parameter : v < f.params → at ≡ 0 → IsLive f v at

-- a variable is live across a Call where it isn't the Call's result and is wanted where the caller goes on
pub record IsLiveAcross (f : MidFunction) (v : ℕ) (at : ℕ) : Type 0 where
  pub function : ℕ
  pub args : List ℕ
  pub result : Option ℕ
  pub is_call : LineAt f at (End (Call function args result))
  pub not_its_result : result ≢ Some v
  pub wanted_behind : IsWanted f v (at + 1)

-- ---- places

-- the slot of a variable: a parameter's is where its caller stored it
abbrev pub own_slot : MidFunction → ℕ → ℕ
own_slot f v = if nat_lt v f.params then f.pairs - 2 - v else v - f.params

abbrev pub PlaceOf : Places → ℕ → Place → Type 0
PlaceOf places v place = slice_get places.list v ≡ Some place

pub record PlacesFit (f : MidFunction) (places : Places) : Type 0 where
  -- there is one place for each variable
  pub one_each : length places.list ≡ f.variables
  -- there are eight pairs
  pub pairs_exist : (v pair : ℕ) → PlaceOf places v (Pair pair) → pair ≤ 7
  -- a variable in a slot is in its own
  pub own_slots : (v slot : ℕ) → PlaceOf places v (Slot slot) → slot ≡ own_slot f v
  -- a variable that is live across a Call has no pair
  pub across_in_slots : (v at pair : ℕ) → IsLiveAcross f v at → PlaceOf places v (Pair pair) → ⊥
  -- two variables that are live at one position have two places
  pub apart : (v w at : ℕ) (place : Place) → IsLive f v at → IsLive f w at → PlaceOf places v place → PlaceOf places w place → v ≡ w
