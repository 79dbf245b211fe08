-- The variables of one call as the meaning of the language has them, and where each stands. It serves private contracts.
use Rattle.std.specs.Prelude.{◌≡◌, ℕ, suc, ◌+◌, ◌-◌, ◌^◌, ◌<◌, ◌==◌, nat_le, Bool, List, [], ◌∷◌, length, reverse, slice_index, slice_get, slice_set}
use Rattle.std.specs.Prelude.{if◌then◌else◌, Option, Some, None, true, false}
use Rattle.c_meaning.specs.Operators.{value}
use Rattle.c_meaning.specs.Run.{Entry, entered, without_first}
use Rattle.eval_state.specs.declared.scopes.Held.{Held}
use Rattle.eval_state.specs.declared.scopes.Cell.{Cell}
use Rattle.eval_state.specs.declared.scopes.Cell.TheVariants as cell

-- the cells of a call, the newest first, as its scopes, the innermost first
abbrev pub scopes_of : List Cell → List (List Entry)
scopes_of [] = []
scopes_of (cell.Open ∷ cs) = [] ∷ scopes_of cs
scopes_of (cell.Holds v ∷ cs) = entered v.name v.value (scopes_of cs)

-- one more than the number of cells below the newest variable of that name; 0 where there is none
abbrev pub newest : ℕ → List Cell → ℕ
newest name [] = 0
newest name (cell.Open ∷ cs) = newest name cs
newest name (cell.Holds v ∷ cs) = if v.name == name then suc (length cs) else newest name cs

-- each variable keeps where the one stands that it hides
abbrev pub Hides : List Cell → Type 0
Hides [] = Unit {0}
Hides (cell.Open ∷ cs) = Hides cs
Hides (cell.Holds v ∷ cs) = (v.hidden ≡ newest v.name cs) × Hides cs

-- where a name stands in a table that begins at another
abbrev pub offset : ℕ → ℕ → ℕ
offset first name = if nat_le first name then name - first else (name + 2 ^ 32) - first

-- a table has the newest variable of each name
pub record Kept (first : ℕ) (table : List ℕ) (cells : List Cell) : Type 0 where
  pub finds : (name : ℕ) → name < 2 ^ 32 → slice_index table (offset first name) ≡ newest name (reverse cells)
  pub hides : Hides (reverse cells)

-- the variable of a cell
abbrev pub held_of : Option Cell → Option Held
held_of (Some (cell.Holds h)) = Some h
held_of (Some cell.Open) = None
held_of None = None

-- the same variable with another word
abbrev pub with_word : ℕ → Held → Held
with_word word h = record { name = h.name; value = value word h.value.is_unsigned; hidden = h.hidden }

-- the variable of a cell has another word
abbrev pub with_stored : Option Held → ℕ → ℕ → List Cell → List Cell
with_stored None index word cells = cells
with_stored (Some h) index word cells = slice_set cells index (cell.Holds (with_word word h))

abbrev pub StoresAt : ℕ → ℕ → List Cell → List Cell → Type 0
StoresAt index word before after = after ≡ with_stored (held_of (slice_get before index)) index word before

-- the newest cell is left out: a variable, else what opens a scope or nothing
abbrev pub Leaves : Bool → List Cell → List Cell → Type 0
Leaves true before after = (without_first (scopes_of (reverse before)) ≡ without_first (scopes_of (reverse after))) × (length after < length before)
Leaves false before after = without_first (scopes_of (reverse before)) ≡ scopes_of (reverse after)
