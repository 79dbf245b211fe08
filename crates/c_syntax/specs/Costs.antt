-- What a program costs by this project's own limits (5.2.4.1): the weight of a function, in pairs of words on the stack, and the block cost,
-- a bound on the blocks of its translation.
use Rattle.std.specs.Prelude.{ℕ, suc, ◌+◌, max, Bool, true, false, if◌then◌else◌, List, [], ◌∷◌, map, sum, length, Option, Some, None}
use Rattle.std.specs.List.{list_any}
use Rattle.c_syntax.specs.declared.tree.BinaryOp.{BinaryOp}
use Rattle.c_syntax.specs.declared.tree.Expr.{Expr, fold-Expr}
use Rattle.c_syntax.specs.declared.tree.Expr.TheOpen.{Expr-F}
use Rattle.c_syntax.specs.declared.tree.Local.{Local}
use Rattle.c_syntax.specs.declared.tree.Label.{Label}
use Rattle.c_syntax.specs.declared.tree.Label.TheVariants as label
use Rattle.c_syntax.specs.declared.tree.Clause.{Clause, fold-Clause}
use Rattle.c_syntax.specs.declared.tree.Stmt.{Stmt, fold-Stmt}
use Rattle.c_syntax.specs.declared.tree.Stmt.TheOpen.{Stmt-F, Clause-F}
use Rattle.c_syntax.specs.declared.tree.Shape.{Shape}
use Rattle.c_syntax.specs.declared.tree.Shape.TheVariants as shape
use Rattle.c_syntax.specs.declared.tree.GlobalVar.{GlobalVar}
use Rattle.c_syntax.specs.declared.tree.Function.{Function}
use Rattle.c_syntax.specs.declared.tree.TopItem.{TopItem}
use Rattle.c_syntax.specs.declared.tree.TopItem.TheVariants as item
use Rattle.c_syntax.specs.declared.tree.Program.{Program}
use Rattle.c_syntax.specs.Sizes.{greatest, or_zero}
use Rattle.c_syntax.specs.Graph.{body_of, defines}

-- ---- temporaries

-- what an expression needs: how many temporaries, where it is evaluated; and whether it is an indexed name, in parentheses or not
pub record Need : Type 0 where
  pub temps : ℕ
  pub is_index : Bool

abbrev pub needs : ℕ → Need
needs temps = record { temps = temps; is_index = false }

-- each argument with those before it, from the one numbered i on
abbrev pub argument_temps : ℕ → List Need → ℕ
argument_temps i [] = 0
argument_temps i (a ∷ rest) = max (i + a.temps) (argument_temps (suc i) rest)

-- the old value, in an assignment with an operator
abbrev pub old_temps : Option BinaryOp → ℕ
old_temps None = 0
old_temps (Some op) = 1

-- the index, and then with the index and the old value what is assigned
abbrev pub assign_temps : Option BinaryOp → Need → ℕ → ℕ
assign_temps op place right =
    if place.is_index then max place.temps (1 + old_temps op + right) else old_temps op + right

abbrev pub bump_temps : Need → ℕ
bump_temps place = if place.is_index then max place.temps 3 else 2

abbrev pub need_step : Expr-F Need → Need
need_step (Expr-F.Literal word is_unsigned at) = needs 1
need_step (Expr-F.Name name at) = needs 1
need_step (Expr-F.Index name index at) = record { temps = index.temps; is_index = true }
need_step (Expr-F.Call name args at) = needs (max 1 (argument_temps 0 args))
need_step (Expr-F.Unary op operand at) = needs (max operand.temps 2)
need_step (Expr-F.Binary op left right at) = needs (max left.temps (1 + right.temps))
need_step (Expr-F.Logic is_and left right at) = needs (max left.temps right.temps)
need_step (Expr-F.Choose test a b at) = needs (max test.temps (max a.temps b.temps))
need_step (Expr-F.Assign op place right at) = needs (assign_temps op place right.temps)
need_step (Expr-F.Bump up before place at) = needs (bump_temps place)
need_step (Expr-F.Comma left right at) = needs (max left.temps right.temps)
need_step (Expr-F.Paren inner at) = inner

abbrev pub need : Expr → Need
need = fold-Expr Need need_step

-- how many temporaries an expression needs; where each place is a name or an indexed name, no part needs more
abbrev pub temps : Expr → ℕ
temps e = (need e).temps

abbrev pub local_temps : Local → ℕ
local_temps d = or_zero temps d.first

abbrev pub label_temps : Label → ℕ
label_temps (label.Case e at) = temps e
label_temps (label.Otherwise at) = 0

-- the greatest of the expressions of a statement; a `switch` keeps what it tests beside the word of a case
abbrev pub statement_temps_step : Stmt-F ℕ ℕ → ℕ
statement_temps_step Stmt-F.Empty = 0
statement_temps_step (Stmt-F.Value e) = temps e
statement_temps_step (Stmt-F.Declare locals) = greatest (map local_temps locals)
statement_temps_step (Stmt-F.Block body) = greatest body
statement_temps_step (Stmt-F.If test a b) = max (temps test) (max a (or_zero (λ n. n) b))
statement_temps_step (Stmt-F.While test body) = max (temps test) body
statement_temps_step (Stmt-F.Do body test) = max body (temps test)
statement_temps_step (Stmt-F.For first test next body) = max first (max (or_zero temps test) (max (or_zero temps next) body))
statement_temps_step (Stmt-F.Switch test clauses) = max (max (temps test) 2) (greatest clauses)
statement_temps_step (Stmt-F.Break at) = 0
statement_temps_step (Stmt-F.Continue at) = 0
statement_temps_step (Stmt-F.Return e at) = or_zero temps e

abbrev pub clause_temps_step : Clause-F ℕ ℕ → ℕ
clause_temps_step c = max (greatest (map label_temps c.labels)) (greatest c.body)

abbrev pub statement_temps : Stmt → ℕ
statement_temps = fold-Stmt ℕ ℕ statement_temps_step clause_temps_step

abbrev pub clause_temps : Clause → ℕ
clause_temps = fold-Clause ℕ ℕ statement_temps_step clause_temps_step

-- ---- weight

-- the variables that a statement declares
abbrev pub statement_locals_step : Stmt-F ℕ ℕ → ℕ
statement_locals_step Stmt-F.Empty = 0
statement_locals_step (Stmt-F.Value e) = 0
statement_locals_step (Stmt-F.Declare locals) = length locals
statement_locals_step (Stmt-F.Block body) = sum body
statement_locals_step (Stmt-F.If test a b) = a + or_zero (λ n. n) b
statement_locals_step (Stmt-F.While test body) = body
statement_locals_step (Stmt-F.Do body test) = body
statement_locals_step (Stmt-F.For first test next body) = first + body
statement_locals_step (Stmt-F.Switch test clauses) = sum clauses
statement_locals_step (Stmt-F.Break at) = 0
statement_locals_step (Stmt-F.Continue at) = 0
statement_locals_step (Stmt-F.Return e at) = 0

abbrev pub clause_locals_step : Clause-F ℕ ℕ → ℕ
clause_locals_step c = sum c.body

abbrev pub statement_locals : Stmt → ℕ
statement_locals = fold-Stmt ℕ ℕ statement_locals_step clause_locals_step

abbrev pub clause_locals : Clause → ℕ
clause_locals = fold-Clause ℕ ℕ statement_locals_step clause_locals_step

-- one for the return address, one for each parameter and each variable of the body, and the temporaries
abbrev pub weight_of : ℕ → List Stmt → ℕ
weight_of params body = 1 + params + sum (map statement_locals body) + greatest (map statement_temps body)

abbrev pub function_weight : Function → ℕ
function_weight f = weight_of (length f.params) (body_of f.body)

-- ---- block cost

-- 1 for a call of a function with a body
abbrev pub call_cost : List TopItem → ℕ → ℕ
call_cost items name = if list_any (defines name) items then 1 else 0

module _ (items : List TopItem) where
  abbrev pub expression_cost_step : Expr-F ℕ → ℕ
  expression_cost_step (Expr-F.Literal word is_unsigned at) = 0
  expression_cost_step (Expr-F.Name name at) = 0
  expression_cost_step (Expr-F.Index name index at) = index
  expression_cost_step (Expr-F.Call name args at) = call_cost items name + sum args
  expression_cost_step (Expr-F.Unary op operand at) = operand
  expression_cost_step (Expr-F.Binary op left right at) = left + right
  expression_cost_step (Expr-F.Logic is_and left right at) = 6 + left + right
  expression_cost_step (Expr-F.Choose test a b at) = 6 + test + a + b
  expression_cost_step (Expr-F.Assign op place right at) = place + right
  expression_cost_step (Expr-F.Bump up before place at) = place
  expression_cost_step (Expr-F.Comma left right at) = left + right
  expression_cost_step (Expr-F.Paren inner at) = inner

  abbrev pub expression_cost : Expr → ℕ
  expression_cost = fold-Expr ℕ expression_cost_step

  abbrev pub local_cost : Local → ℕ
  local_cost d = or_zero expression_cost d.first

  abbrev pub label_cost : Label → ℕ
  label_cost (label.Case e at) = 4 + expression_cost e
  label_cost (label.Otherwise at) = 4

  abbrev pub statement_cost_step : Stmt-F ℕ ℕ → ℕ
  statement_cost_step Stmt-F.Empty = 0
  statement_cost_step (Stmt-F.Value e) = expression_cost e
  statement_cost_step (Stmt-F.Declare locals) = sum (map local_cost locals)
  statement_cost_step (Stmt-F.Block body) = sum body
  statement_cost_step (Stmt-F.If test a b) = 6 + expression_cost test + a + or_zero (λ n. n) b
  statement_cost_step (Stmt-F.While test body) = 8 + expression_cost test + body
  statement_cost_step (Stmt-F.Do body test) = 8 + body + expression_cost test
  statement_cost_step (Stmt-F.For first test next body) = 8 + first + or_zero expression_cost test + or_zero expression_cost next + body
  statement_cost_step (Stmt-F.Switch test clauses) = 6 + expression_cost test + sum clauses
  statement_cost_step (Stmt-F.Break at) = 0
  statement_cost_step (Stmt-F.Continue at) = 0
  statement_cost_step (Stmt-F.Return e at) = or_zero expression_cost e

  abbrev pub clause_cost_step : Clause-F ℕ ℕ → ℕ
  clause_cost_step c = sum (map label_cost c.labels) + sum c.body

  abbrev pub statement_cost : Stmt → ℕ
  statement_cost = fold-Stmt ℕ ℕ statement_cost_step clause_cost_step

  abbrev pub clause_cost : Clause → ℕ
  clause_cost = fold-Clause ℕ ℕ statement_cost_step clause_cost_step

  -- 4 for a body
  abbrev pub body_cost : List Stmt → ℕ
  body_cost body = 4 + sum (map statement_cost body)

  abbrev pub shape_cost : Shape → ℕ
  shape_cost shape.Scalar = 0
  shape_cost (shape.Array length) = or_zero expression_cost length

  abbrev pub global_cost : GlobalVar → ℕ
  global_cost g = shape_cost g.shape + sum (map expression_cost g.first)

  abbrev pub item_cost : TopItem → ℕ
  item_cost (item.Globals gs) = sum (map global_cost gs)
  item_cost (item.Function f) = or_zero body_cost f.body

-- 2 for the program
abbrev pub program_cost : Program → ℕ
program_cost program = 2 + sum (map (item_cost program.items) program.items)
