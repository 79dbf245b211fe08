-- Declarations whose arrays hold only what was written of them.
use Rattle.std.specs.Prelude.{ℕ, Bool, List}
use Rattle.c_syntax.specs.declared.tree.Ty.{Ty}
use Rattle.c_meaning.specs.Meaning.{padded}
use Rattle.check_rules.specs.declared.decl.Decl.{Decl}
use Rattle.check_rules.specs.declared.decl.Decl.TheVariants as decl
use Rattle.check_scopes.specs.declared.pending.Pending.{Pending}
use Rattle.check_scopes.specs.declared.pending.Pending.TheVariants as pending

-- an array of so many elements, of which the first hold these words
abbrev pub array_of : Ty → Bool → ℕ → List ℕ → Decl
array_of ty is_const count first = decl.Array ty is_const (padded count first)

-- what is declared
abbrev pub whole : Pending → Decl
whole (pending.Whole d) = d
whole (pending.Array ty is_const count first) = array_of ty is_const count first
