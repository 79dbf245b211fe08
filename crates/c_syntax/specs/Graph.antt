-- The functions of a program, and which of them call which: a function is recursive where a chain of calls leads from its body back to it
-- (ISO/IEC 9899:1999, 6.5.2.2, 11).
use Rattle.std.specs.Prelude.{ℕ, zero, suc, Bool, true, false, ◌&&◌, ◌||◌, ◌==◌, List, [], ◌∷◌, ◌++◌, find, flat_map, length, Option, Some, None, Contains}
use Rattle.std.specs.List.{list_any}
use Rattle.c_syntax.specs.declared.tree.Expr.{Expr, fold-Expr}
use Rattle.c_syntax.specs.declared.tree.Expr.TheOpen.{Expr-F}
use Rattle.c_syntax.specs.declared.tree.Local.{Local}
use Rattle.c_syntax.specs.declared.tree.Label.{Label}
use Rattle.c_syntax.specs.declared.tree.Label.TheVariants as label
use Rattle.c_syntax.specs.declared.tree.Clause.{Clause, fold-Clause}
use Rattle.c_syntax.specs.declared.tree.Stmt.{Stmt, fold-Stmt}
use Rattle.c_syntax.specs.declared.tree.Stmt.TheOpen.{Stmt-F, Clause-F}
use Rattle.c_syntax.specs.declared.tree.Function.{Function}
use Rattle.c_syntax.specs.declared.tree.TopItem.{TopItem}
use Rattle.c_syntax.specs.declared.tree.TopItem.TheVariants as item
use Rattle.std.specs.Prelude.{filter}

-- ---- functions (6.9.1)

-- the functions of a list of external declarations
abbrev pub functions_of : TopItem → List Function
functions_of (item.Globals globals) = []
functions_of (item.Function f) = f ∷ []

abbrev pub functions : List TopItem → List Function
functions = flat_map functions_of

abbrev pub has_body : Option (List Stmt) → Bool
has_body None = false
has_body (Some body) = true

-- the function with a body that has this name
abbrev pub function_named : ℕ → List TopItem → Option Function
function_named name items = find (λ f. f.name == name && has_body f.body) (functions items)

-- whether an external declaration is a function with a body of that name
abbrev pub defines : ℕ → TopItem → Bool
defines name (item.Globals globals) = false
defines name (item.Function f) = f.name == name && has_body f.body

abbrev pub body_of : Option (List Stmt) → List Stmt
body_of None = []
body_of (Some body) = body

-- ---- the calls of a body, from left to right (6.5.2.2)

-- those of a part that may be left out
abbrev pub or_none : {A : Type 0} → (A → List ℕ) → Option A → List ℕ
or_none calls None = []
or_none calls (Some a) = calls a

-- the names that an expression calls
abbrev pub expression_calls_step : Expr-F (List ℕ) → List ℕ
expression_calls_step (Expr-F.Literal word is_unsigned at) = []
expression_calls_step (Expr-F.Name name at) = []
expression_calls_step (Expr-F.Index name index at) = index
expression_calls_step (Expr-F.Call name args at) = name ∷ flat_map (λ calls. calls) args
expression_calls_step (Expr-F.Unary op operand at) = operand
expression_calls_step (Expr-F.Binary op left right at) = left ++ right
expression_calls_step (Expr-F.Logic is_and left right at) = left ++ right
expression_calls_step (Expr-F.Choose test a b at) = test ++ a ++ b
expression_calls_step (Expr-F.Assign op place right at) = place ++ right
expression_calls_step (Expr-F.Bump up before place at) = place
expression_calls_step (Expr-F.Comma left right at) = left ++ right
expression_calls_step (Expr-F.Paren inner at) = inner

abbrev pub expression_calls : Expr → List ℕ
expression_calls = fold-Expr (List ℕ) expression_calls_step

abbrev pub local_calls : Local → List ℕ
local_calls d = or_none expression_calls d.first

abbrev pub label_calls : Label → List ℕ
label_calls (label.Case value at) = expression_calls value
label_calls (label.Otherwise at) = []

-- the names that a statement calls
abbrev pub statement_calls_step : Stmt-F (List ℕ) (List ℕ) → List ℕ
statement_calls_step Stmt-F.Empty = []
statement_calls_step (Stmt-F.Value e) = expression_calls e
statement_calls_step (Stmt-F.Declare locals) = flat_map local_calls locals
statement_calls_step (Stmt-F.Block body) = flat_map (λ calls. calls) body
statement_calls_step (Stmt-F.If test a b) = expression_calls test ++ a ++ or_none (λ calls. calls) b
statement_calls_step (Stmt-F.While test body) = expression_calls test ++ body
statement_calls_step (Stmt-F.Do body test) = body ++ expression_calls test
statement_calls_step (Stmt-F.For first test next body) = first ++ or_none expression_calls test ++ or_none expression_calls next ++ body
statement_calls_step (Stmt-F.Switch test clauses) = expression_calls test ++ flat_map (λ calls. calls) clauses
statement_calls_step (Stmt-F.Break at) = []
statement_calls_step (Stmt-F.Continue at) = []
statement_calls_step (Stmt-F.Return e at) = or_none expression_calls e

abbrev pub clause_calls_step : Clause-F (List ℕ) (List ℕ) → List ℕ
clause_calls_step c = flat_map label_calls c.labels ++ flat_map (λ calls. calls) c.body

abbrev pub statement_calls : Stmt → List ℕ
statement_calls = fold-Stmt (List ℕ) (List ℕ) statement_calls_step clause_calls_step

abbrev pub clause_calls : Clause → List ℕ
clause_calls = fold-Clause (List ℕ) (List ℕ) statement_calls_step clause_calls_step

abbrev pub body_calls : Option (List Stmt) → List ℕ
body_calls body = flat_map statement_calls (body_of body)

-- ---- chains of calls

-- the names that the body of a function calls, none where the program has no body for it
abbrev pub calls_of : Option Function → List ℕ
calls_of None = []
calls_of (Some f) = body_calls f.body

abbrev pub callees : List TopItem → ℕ → List ℕ
callees items name = calls_of (function_named name items)

-- whether a chain of at most n calls leads from one function to another
abbrev pub leads : List TopItem → ℕ → ℕ → ℕ → Bool
leads items zero from to = false
leads items (suc n) from to = list_any (λ name. name == to || leads items n name to) (callees items from)

-- a chain that leads back passes each function at most once
abbrev pub is_recursive : List TopItem → ℕ → Bool
is_recursive items name = leads items (length (functions items)) name name

-- the same without a bound: calls that lead from one function to another
pub data Chain (items : List TopItem) : ℕ → ℕ → Type 0 where
  direct : {from to : ℕ} → Contains (callees items from) to → Chain items from to
  through : {from to : ℕ} (name : ℕ) → Contains (callees items from) name → Chain items name to → Chain items from to

-- the functions that have a body, in the order of the text
abbrev pub with_bodies : List TopItem → List Function
with_bodies items = filter (λ f. has_body f.body) (functions items)
