-- That the literals of a tree are words (ISO/IEC 9899:1999, 6.4.4.1, with `int` and `unsigned` of 32 bits).
use Rattle.std.specs.Prelude.{ℕ, ◌^◌, Bool, true, ◌&&◌, nat_lt, List, Option, Some, None}
use Rattle.std.specs.List.{list_all}
use Rattle.c_syntax.specs.declared.tree.Expr.{Expr, fold-Expr}
use Rattle.c_syntax.specs.declared.tree.Expr.TheOpen.{Expr-F}
use Rattle.c_syntax.specs.declared.tree.Local.{Local}
use Rattle.c_syntax.specs.declared.tree.Label.{Label}
use Rattle.c_syntax.specs.declared.tree.Label.TheVariants as label
use Rattle.c_syntax.specs.declared.tree.Clause.{Clause, fold-Clause}
use Rattle.c_syntax.specs.declared.tree.Stmt.{Stmt, fold-Stmt}
use Rattle.c_syntax.specs.declared.tree.Stmt.TheOpen.{Stmt-F, Clause-F}
use Rattle.c_syntax.specs.declared.tree.Shape.{Shape}
use Rattle.c_syntax.specs.declared.tree.Shape.TheVariants as shape
use Rattle.c_syntax.specs.declared.tree.GlobalVar.{GlobalVar}
use Rattle.c_syntax.specs.declared.tree.TopItem.{TopItem}
use Rattle.c_syntax.specs.declared.tree.TopItem.TheVariants as item
use Rattle.c_syntax.specs.Graph.{body_of}

-- whether it holds of a part, where there is one
abbrev pub if_there : {A : Type 0} → (A → Bool) → Option A → Bool
if_there test None = true
if_there test (Some a) = test a

abbrev pub all_true : List Bool → Bool
all_true = list_all (λ b. b)

abbrev pub literals_step : Expr-F Bool → Bool
literals_step (Expr-F.Literal word is_unsigned at) = nat_lt word (2 ^ 32)
literals_step (Expr-F.Name name at) = true
literals_step (Expr-F.Index name index at) = index
literals_step (Expr-F.Call name args at) = all_true args
literals_step (Expr-F.Unary op operand at) = operand
literals_step (Expr-F.Binary op left right at) = left && right
literals_step (Expr-F.Logic is_and left right at) = left && right
literals_step (Expr-F.Choose test a b at) = test && (a && b)
literals_step (Expr-F.Assign op place right at) = place && right
literals_step (Expr-F.Bump up before place at) = place
literals_step (Expr-F.Comma left right at) = left && right
literals_step (Expr-F.Paren inner at) = inner

-- whether each literal of an expression is a word
abbrev pub literals_are_words : Expr → Bool
literals_are_words = fold-Expr Bool literals_step

abbrev pub local_literals : Local → Bool
local_literals d = if_there literals_are_words d.first

abbrev pub label_literals : Label → Bool
label_literals (label.Case value at) = literals_are_words value
label_literals (label.Otherwise at) = true

abbrev pub statement_literals_step : Stmt-F Bool Bool → Bool
statement_literals_step Stmt-F.Empty = true
statement_literals_step (Stmt-F.Value e) = literals_are_words e
statement_literals_step (Stmt-F.Declare locals) = list_all local_literals locals
statement_literals_step (Stmt-F.Block body) = all_true body
statement_literals_step (Stmt-F.If test a b) = literals_are_words test && (a && if_there (λ c. c) b)
statement_literals_step (Stmt-F.While test body) = literals_are_words test && body
statement_literals_step (Stmt-F.Do body test) = body && literals_are_words test
statement_literals_step (Stmt-F.For first test next body) = first && (if_there literals_are_words test && (if_there literals_are_words next && body))
statement_literals_step (Stmt-F.Switch test clauses) = literals_are_words test && all_true clauses
statement_literals_step (Stmt-F.Break at) = true
statement_literals_step (Stmt-F.Continue at) = true
statement_literals_step (Stmt-F.Return e at) = if_there literals_are_words e

abbrev pub clause_literals_step : Clause-F Bool Bool → Bool
clause_literals_step c = list_all label_literals c.labels && all_true c.body

-- of a statement
abbrev pub statement_literals : Stmt → Bool
statement_literals = fold-Stmt Bool Bool statement_literals_step clause_literals_step

abbrev pub clause_literals : Clause → Bool
clause_literals = fold-Clause Bool Bool statement_literals_step clause_literals_step

abbrev pub shape_literals : Shape → Bool
shape_literals shape.Scalar = true
shape_literals (shape.Array length) = if_there literals_are_words length

abbrev pub global_literals : GlobalVar → Bool
global_literals g = shape_literals g.shape && list_all literals_are_words g.first

abbrev pub item_literals : TopItem → Bool
item_literals (item.Globals gs) = list_all global_literals gs
item_literals (item.Function f) = list_all statement_literals (body_of f.body)

-- of the items of a program
abbrev pub items_literals : List TopItem → Bool
items_literals = list_all item_literals
