-- Where the newest binding of each name stands in a scope, and the two parts of a declaration at file scope.
use Rattle.std.specs.Prelude.{◌≡◌, ℕ, ◌<◌, List, [], ◌∷◌, ◌++◌, reverse, length, Option, Some, None, option_map}
use Rattle.std.specs.BTreeMap.{BTreeMap, get}
use Rattle.std.specs.List.{slice_get}
use Rattle.std.specs.Ordering.{nat_cmp}
use Rattle.check_rules.specs.declared.names.Binding.{Binding}
use Rattle.check_rules.specs.declared.names.Kind.{Kind}
use Rattle.check_rules.specs.declared.decl.Decl.{Decl}
use Rattle.check_rules.specs.Scopes.{lookup, Walking, binding}

-- where the newest binding of a name stands among bindings of which the newest is the last, if there is one
abbrev pub IsPlace : ℕ → List Binding → Option ℕ → Type 0
IsPlace name bindings None = lookup name (reverse bindings) ≡ None
IsPlace name bindings (Some place) = (place < length bindings) × (option_map (λ b. b.known) (slice_get bindings place) ≡ lookup name (reverse bindings))

-- a map has the place of each name
abbrev pub HasPlaces : BTreeMap ℕ ℕ → List Binding → Type 0
HasPlaces places bindings = (name : ℕ) → IsPlace name bindings (get nat_cmp places name)

-- a name of the file that has come into force, whose declaration comes later
abbrev pub named_in_file : ℕ → Kind → Walking → Walking
named_in_file name kind w = record w { file = binding name kind w ∷ w.file }

-- the declaration that comes later
abbrev pub declared : Decl → Walking → Walking
declared decl w = record w { decls = w.decls ++ decl ∷ [] }
