-- Scopes of names (ISO/IEC 9899:1999, 6.2.1): the file; a function's parameters together with its outermost block; each inner block; each
-- `for`.
use Rattle.std.specs.Prelude.{ℕ, Bool, true, not, List, [], ◌∷◌, ◌++◌, length, Option, Some, None, if◌then◌else◌, ◌==◌, is_some}
use Rattle.c_meaning.specs.Run.{or_else, without_first}
use Rattle.check_rules.specs.declared.decl.Decl.{Decl}
pub use Rattle.check_rules.specs.declared.names.Kind.{Kind}
pub use Rattle.check_rules.specs.declared.names.Kind.TheVariants.{Scalar, Array, Function}
pub use Rattle.check_rules.specs.declared.names.Known.{Known}
pub use Rattle.check_rules.specs.declared.names.Binding.{Binding}

abbrev pub Scope : Type 0
Scope = List Binding

-- the declaration of a name in one scope
abbrev pub lookup : ℕ → Scope → Option Known
lookup name [] = None
lookup name (b ∷ bs) = if b.name == name then Some b.known else lookup name bs

-- the declaration of a name in the innermost scope that has it
abbrev pub innermost_known : ℕ → List Scope → Option Known
innermost_known name [] = None
innermost_known name (scope ∷ scopes) = or_else (lookup name scope) (innermost_known name scopes)

-- how far the walk has come: the names at file scope; the scopes of the function, the innermost first; all declarations so far, each
-- at its position; and the names of the functions whose bodies have come
pub record Walking : Type 0 where
  pub file : Scope
  pub blocks : List Scope
  pub decls : List Decl
  pub bodies : List ℕ

-- the declaration in force of each name
abbrev pub InForce : Type 0
InForce = ℕ → Option Known

abbrev pub in_force : Walking → InForce
in_force w = λ name. or_else (innermost_known name w.blocks) (lookup name w.file)

-- a new declaration of a name
abbrev pub binding : ℕ → Kind → Walking → Binding
binding name kind w = record { name = name; known = record { position = length w.decls; kind = kind } }

-- a name that comes into force at file scope
abbrev pub enter_file : ℕ → Kind → Decl → Walking → Walking
enter_file name kind decl w = record w { file = binding name kind w ∷ w.file; decls = w.decls ++ decl ∷ [] }

abbrev pub entered : Binding → List Scope → List Scope
entered b [] = (b ∷ []) ∷ []
entered b (scope ∷ scopes) = (b ∷ scope) ∷ scopes

-- a variable or a parameter that comes into force in the innermost scope
abbrev pub enter_block : ℕ → Kind → Decl → Walking → Walking
enter_block name kind decl w = record w { blocks = entered (binding name kind w) w.blocks; decls = w.decls ++ decl ∷ [] }

-- whether the innermost scope has no such name
abbrev pub is_new : ℕ → List Scope → Bool
is_new name [] = true
is_new name (scope ∷ scopes) = not (is_some (lookup name scope))

-- a new innermost scope
abbrev pub opened : Walking → Walking
opened w = record w { blocks = [] ∷ w.blocks }

-- the end of the innermost scope
abbrev pub closed : Walking → Walking
closed w = record w { blocks = without_first w.blocks }

-- a function begins, with a scope of its own
abbrev pub begun : Walking → Walking
begun w = record w { blocks = [] ∷ [] }

-- it ends
abbrev pub ended : Walking → Walking
ended w = record w { blocks = [] }

-- the body of this name has come
abbrev pub with_body_of : ℕ → Walking → Walking
with_body_of name w = record w { bodies = w.bodies ++ name ∷ [] }
