-- The functions that a function calls, in a list under each name, and what searches in them answer.
use Rattle.std.specs.Prelude.{◌≡◌, ℕ, Bool, true, false, List, [], length, slice_index_or, Contains, ◌⊎◌}
use Rattle.c_syntax.specs.declared.tree.TopItem.{TopItem}
use Rattle.c_syntax.specs.Graph.{functions, callees, leads, is_recursive}

-- under each name the names that its function calls in a program, in order
abbrev pub IsGraph : List TopItem → List (List ℕ) → Type 0
IsGraph items lists = (name : ℕ) → slice_index_or lists name [] ≡ callees items name

-- under each name whether its function reaches itself
abbrev pub AreRecursive : List TopItem → List Bool → Type 0
AreRecursive items recursive = (name : ℕ) → slice_index_or recursive name false ≡ is_recursive items name

-- under each name whether calls lead to its function from one function
abbrev pub AreReached : List TopItem → ℕ → List Bool → Type 0
AreReached items from reached = (name : ℕ) → slice_index_or reached name false ≡ leads items (length (functions items)) from name

-- what the one function calls, or one of those under which it says true, has true under it
abbrev pub AreFollowed : List (List ℕ) → ℕ → List Bool → Type 0
AreFollowed lists from reached =
    (name to : ℕ) → (name ≡ from) ⊎ (slice_index_or reached name false ≡ true) → Contains (slice_index_or lists name []) to →
    slice_index_or reached to false ≡ true
