-- What every tree of a source has beyond its types: where `void` and declarations stand, and how many initialisers there are.
use Rattle.std.specs.Prelude.{ℕ, Bool, true, false, not, ◌&&◌, List, [], ◌∷◌, Option, Some, None, IsTrue}
use Rattle.c_syntax.specs.declared.tree.Ty.{Ty}
use Rattle.c_syntax.specs.declared.tree.Ty.TheVariants.{Int, Unsigned, Void}
use Rattle.c_syntax.specs.declared.tree.Expr.{Expr}
use Rattle.c_syntax.specs.declared.tree.Local.{Local}
use Rattle.c_syntax.specs.declared.tree.Stmt.{Stmt, fold-Stmt}
use Rattle.c_syntax.specs.declared.tree.Stmt.TheOpen.{Stmt-F, Clause-F}
use Rattle.c_syntax.specs.declared.tree.Shape.{Shape}
use Rattle.c_syntax.specs.declared.tree.Shape.TheVariants as shape
use Rattle.c_syntax.specs.declared.tree.GlobalVar.{GlobalVar}
use Rattle.c_syntax.specs.declared.tree.Param.{Param}
use Rattle.c_syntax.specs.declared.tree.Function.{Function}
use Rattle.c_syntax.specs.declared.tree.TopItem.{TopItem}
use Rattle.c_syntax.specs.declared.tree.TopItem.TheVariants as item
use Rattle.c_syntax.specs.declared.tree.Program.{Program}

-- whether the test holds of each
abbrev pub each : {A : Type 0} → (A → Bool) → List A → Bool
each test [] = true
each test (x ∷ xs) = test x && each test xs

-- whether a type is one of values, not void
abbrev pub is_value_type : Ty → Bool
is_value_type Int = true
is_value_type Unsigned = true
is_value_type Void = false

-- what is asked of a statement at the place where it stands
pub record Form : Type 0 where
  -- it is a declaration
  pub is_declaration : Bool
  -- it can be the first clause of a `for`: empty, an expression or a declaration (6.8.5.3)
  pub is_clause : Bool
  -- all that stands in it is shaped
  pub is_shaped : Bool

-- a statement that is neither a declaration nor a clause
abbrev pub plain : Bool → Form
plain is_shaped = record { is_declaration = false; is_clause = false; is_shaped = is_shaped }

-- a part of a statement that can't be a declaration (6.8)
abbrev pub is_substatement : Form → Bool
is_substatement c = not c.is_declaration && c.is_shaped

abbrev pub is_substatement_if : Option Form → Bool
is_substatement_if None = true
is_substatement_if (Some c) = is_substatement c

-- no local is void
abbrev pub is_shaped_local : Local → Bool
is_shaped_local d = is_value_type d.ty

-- one level of a statement, with the form of each part in its place
abbrev pub form_step : Stmt-F Form Bool → Form
form_step Stmt-F.Empty = record { is_declaration = false; is_clause = true; is_shaped = true }
form_step (Stmt-F.Value e) = record { is_declaration = false; is_clause = true; is_shaped = true }
form_step (Stmt-F.Declare locals) = record { is_declaration = true; is_clause = true; is_shaped = each is_shaped_local locals }
form_step (Stmt-F.Block body) = plain (each (λ c. c.is_shaped) body)
form_step (Stmt-F.If test a b) = plain (is_substatement a && is_substatement_if b)
form_step (Stmt-F.While test body) = plain (is_substatement body)
form_step (Stmt-F.Do body test) = plain (is_substatement body)
form_step (Stmt-F.For first test next body) = plain ((first.is_clause && first.is_shaped) && is_substatement body)
form_step (Stmt-F.Switch test clauses) = plain (each (λ c. c) clauses)
form_step (Stmt-F.Break at) = plain true
form_step (Stmt-F.Continue at) = plain true
form_step (Stmt-F.Return e at) = plain true

-- the statements of a clause of a `switch` are no declarations
abbrev pub clause_form_step : Clause-F Form Bool → Bool
clause_form_step c = each is_substatement c.body

abbrev pub form : Stmt → Form
form = fold-Stmt Form Bool form_step clause_form_step

-- a declaration stands directly in a body or a block, or as the first clause of a `for`
abbrev pub is_shaped_statement : Stmt → Bool
is_shaped_statement c = (form c).is_shaped

-- a variable of one word has at most one initialiser
abbrev pub at_most_one : List Expr → Bool
at_most_one [] = true
at_most_one (e ∷ []) = true
at_most_one (e ∷ e' ∷ es) = false

abbrev pub is_shaped_first : Shape → List Expr → Bool
is_shaped_first shape.Scalar first = at_most_one first
is_shaped_first (shape.Array length) first = true

-- no variable at file scope is void
abbrev pub is_shaped_global : GlobalVar → Bool
is_shaped_global g = is_value_type g.ty && is_shaped_first g.shape g.first

-- no parameter is void
abbrev pub is_shaped_param : Param → Bool
is_shaped_param p = is_value_type p.ty

abbrev pub has_name : Option ℕ → Bool
has_name None = false
has_name (Some name) = true

-- 6.9.1, 5: each parameter of a function with a body has a name
abbrev pub is_shaped_body : List Param → Option (List Stmt) → Bool
is_shaped_body params None = true
is_shaped_body params (Some body) = each (λ p. has_name p.name) params && each is_shaped_statement body

abbrev pub is_shaped_function : Function → Bool
is_shaped_function f = each is_shaped_param f.params && is_shaped_body f.params f.body

abbrev pub is_shaped_item : TopItem → Bool
is_shaped_item (item.Globals gs) = each is_shaped_global gs
is_shaped_item (item.Function f) = is_shaped_function f

-- all of these hold of a program
abbrev pub Shaped : Program → Type 0
Shaped program = IsTrue (each is_shaped_item program.items)
