-- What is known by name of the functions of a program.
use Rattle.std.specs.Prelude.{◌≡◌, ℕ, List, Bool, false, ◌==◌, ◌&&◌, slice_index, slice_index_or, if◌then◌else◌, Option, Some, None}
use Rattle.c_syntax.specs.declared.tree.Function.{Function}
use Rattle.c_syntax.specs.declared.tree.TopItem.{TopItem}
use Rattle.c_syntax.specs.declared.tree.TopItem.TheVariants as item
use Rattle.c_syntax.specs.Graph.{defines, is_recursive}
use Rattle.eval_state.specs.Files.{first_from}

-- one more than the index of the function with a body that has the name, 0 where there is none
abbrev pub HasFunctions : List ℕ → List TopItem → Type 0
HasFunctions table items = (name : ℕ) → slice_index table name ≡ first_from (defines name) 0 items

-- whether the function of a name is recursive
abbrev pub KnowsRecursive : List Bool → List TopItem → Type 0
KnowsRecursive recursive items = (name : ℕ) → slice_index_or recursive name false ≡ is_recursive items name

-- the function that an item is
abbrev pub function_in : TopItem → Option Function
function_in (item.Globals globals) = None
function_in (item.Function f) = Some f

-- a number noted for the function with a body that an item is, where its name has none
abbrev pub NotesItem : TopItem → ℕ → List ℕ → List ℕ → Type 0
NotesItem item number before after =
    (name : ℕ) → slice_index after name ≡ (if defines name item && slice_index before name == 0 then number else slice_index before name)
