-- Parts of the walk of a variable at file scope (6.9.2). It serves private contracts alone.
use Rattle.std.specs.Prelude.{ℕ, zero, suc, Bool, true, false, List}
use Rattle.c_syntax.specs.declared.tree.Ty.{Ty}
use Rattle.c_syntax.specs.declared.tree.Expr.{Expr}
use Rattle.c_syntax.specs.declared.tree.Shape.{Shape}
use Rattle.c_syntax.specs.declared.tree.Shape.TheVariants as shape
use Rattle.c_meaning.specs.Meaning.{first_or_zero}
use Rattle.check_rules.specs.declared.decl.Decl.{Decl}
use Rattle.check_rules.specs.declared.decl.Decl.TheVariants as decl
use Rattle.check_rules.specs.declared.error.CheckKind.TheVariants.{TooManyInitialisers}
use Rattle.check_rules.specs.Fault.{Walk, fault}
use Rattle.check_rules.specs.Scopes.{Walking}
use Rattle.check_rules.specs.Walk.{place_of, constant_part}
use Rattle.check_scopes.specs.Pending.{array_of}

-- an initialiser, where there may be so many more
abbrev pub walk_initialiser : ℕ → Expr → Walking → Walk Expr
walk_initialiser zero e w = fault TooManyInitialisers (place_of e)
walk_initialiser (suc room) e w = constant_part e w

abbrev pub is_array_shape : Shape → Bool
is_array_shape shape.Scalar = false
is_array_shape (shape.Array length) = true

-- what a variable of so many elements holds before the run, whose initialisers have these words
abbrev pub decl_of : Bool → Ty → Bool → ℕ → List ℕ → Decl
decl_of false ty is_const count words = decl.Scalar ty is_const true (first_or_zero words)
decl_of true ty is_const count words = array_of ty is_const count words
