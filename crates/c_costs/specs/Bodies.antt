-- What is looked up by names, for private contracts alone.
use Rattle.std.specs.Prelude.{◌≡◌, ℕ, Bool, false, List, slice_index_or}
use Rattle.std.specs.List.{list_any}
use Rattle.c_syntax.specs.declared.tree.TopItem.{TopItem}
use Rattle.c_syntax.specs.Graph.{defines}

-- under each name whether a function with a body has it
abbrev pub AreBodies : List TopItem → List Bool → Type 0
AreBodies items bodies = (name : ℕ) → slice_index_or bodies name false ≡ list_any (defines name) items
