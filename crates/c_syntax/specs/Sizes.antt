-- The sizes of a tree: its depth and its nodes. A source with too deep a tree is refused, and the limits of 5.2.4.1 are the project's own.
use Rattle.std.specs.Prelude.{ℕ, ◌+◌, max, List, [], ◌∷◌, map, sum, length, Option, Some, None}
use Rattle.c_syntax.specs.declared.tree.Expr.{Expr, fold-Expr}
use Rattle.c_syntax.specs.declared.tree.Expr.TheOpen.{Expr-F}
use Rattle.c_syntax.specs.declared.tree.Local.{Local}
use Rattle.c_syntax.specs.declared.tree.Label.{Label}
use Rattle.c_syntax.specs.declared.tree.Label.TheVariants as label
use Rattle.c_syntax.specs.declared.tree.Clause.{Clause, fold-Clause}
use Rattle.c_syntax.specs.declared.tree.Stmt.{Stmt, fold-Stmt}
use Rattle.c_syntax.specs.declared.tree.Stmt.TheOpen.{Stmt-F, Clause-F}
use Rattle.c_syntax.specs.declared.tree.Shape.{Shape}
use Rattle.c_syntax.specs.declared.tree.Shape.TheVariants as shape
use Rattle.c_syntax.specs.declared.tree.GlobalVar.{GlobalVar}
use Rattle.c_syntax.specs.declared.tree.Param.{Param}
use Rattle.c_syntax.specs.declared.tree.TopItem.{TopItem}
use Rattle.c_syntax.specs.declared.tree.TopItem.TheVariants as item
use Rattle.c_syntax.specs.declared.tree.Program.{Program}

-- ---- depth

-- the greatest number of a list, 0 where there is none
abbrev pub greatest : List ℕ → ℕ
greatest [] = 0
greatest (n ∷ ns) = max n (greatest ns)

-- what a part that may be left out adds
abbrev pub or_zero : {A : Type 0} → (A → ℕ) → Option A → ℕ
or_zero size None = 0
or_zero size (Some a) = size a

-- an expression's depth is 1 plus the greatest of its operands'
abbrev pub expression_depth_step : Expr-F ℕ → ℕ
expression_depth_step (Expr-F.Literal word is_unsigned at) = 1
expression_depth_step (Expr-F.Name name at) = 1
expression_depth_step (Expr-F.Index name index at) = 1 + index
expression_depth_step (Expr-F.Call name args at) = 1 + greatest args
expression_depth_step (Expr-F.Unary op operand at) = 1 + operand
expression_depth_step (Expr-F.Binary op left right at) = 1 + max left right
expression_depth_step (Expr-F.Logic is_and left right at) = 1 + max left right
expression_depth_step (Expr-F.Choose test a b at) = 1 + max test (max a b)
expression_depth_step (Expr-F.Assign op place right at) = 1 + max place right
expression_depth_step (Expr-F.Bump up before place at) = 1 + place
expression_depth_step (Expr-F.Comma left right at) = 1 + max left right
expression_depth_step (Expr-F.Paren inner at) = 1 + inner

abbrev pub expression_depth : Expr → ℕ
expression_depth = fold-Expr ℕ expression_depth_step

abbrev pub local_depth : Local → ℕ
local_depth d = or_zero expression_depth d.first

-- a statement's depth is 1 plus the greatest of its parts'
abbrev pub statement_depth_step : Stmt-F ℕ ℕ → ℕ
statement_depth_step Stmt-F.Empty = 1
statement_depth_step (Stmt-F.Value e) = 1 + expression_depth e
statement_depth_step (Stmt-F.Declare locals) = 1 + greatest (map local_depth locals)
statement_depth_step (Stmt-F.Block body) = 1 + greatest body
statement_depth_step (Stmt-F.If test a b) = 1 + max (expression_depth test) (max a (or_zero (λ n. n) b))
statement_depth_step (Stmt-F.While test body) = 1 + max (expression_depth test) body
statement_depth_step (Stmt-F.Do body test) = 1 + max body (expression_depth test)
statement_depth_step (Stmt-F.For first test next body) = 1 + max first (max (or_zero expression_depth test) (max (or_zero expression_depth next) body))
statement_depth_step (Stmt-F.Switch test clauses) = 1 + max (expression_depth test) (greatest clauses)
statement_depth_step (Stmt-F.Break at) = 1
statement_depth_step (Stmt-F.Continue at) = 1
statement_depth_step (Stmt-F.Return e at) = 1 + or_zero expression_depth e

-- the depth of a `case` is that of its expression
abbrev pub label_depth : Label → ℕ
label_depth (label.Case e at) = expression_depth e
label_depth (label.Otherwise at) = 0

-- a clause of a `switch` has none of its own
abbrev pub clause_depth_step : Clause-F ℕ ℕ → ℕ
clause_depth_step c = max (greatest (map label_depth c.labels)) (greatest c.body)

abbrev pub statement_depth : Stmt → ℕ
statement_depth = fold-Stmt ℕ ℕ statement_depth_step clause_depth_step

abbrev pub clause_depth : Clause → ℕ
clause_depth = fold-Clause ℕ ℕ statement_depth_step clause_depth_step

-- a body counts as a block
abbrev pub body_depth : List Stmt → ℕ
body_depth body = 1 + greatest (map statement_depth body)

-- the depth of an array's length
abbrev pub shape_depth : Shape → ℕ
shape_depth shape.Scalar = 0
shape_depth (shape.Array length) = or_zero expression_depth length

-- the greatest depth of the length and the initialisers of a variable at file scope
abbrev pub global_depth : GlobalVar → ℕ
global_depth g = max (shape_depth g.shape) (greatest (map expression_depth g.first))

abbrev pub item_depth : TopItem → ℕ
item_depth (item.Globals gs) = greatest (map global_depth gs)
item_depth (item.Function f) = or_zero body_depth f.body

-- the depth of a program is the greatest of its bodies, lengths and initialisers
abbrev pub program_depth : Program → ℕ
program_depth program = greatest (map item_depth program.items)

-- ---- nodes

-- one for each expression
abbrev pub expression_nodes_step : Expr-F ℕ → ℕ
expression_nodes_step (Expr-F.Literal word is_unsigned at) = 1
expression_nodes_step (Expr-F.Name name at) = 1
expression_nodes_step (Expr-F.Index name index at) = 1 + index
expression_nodes_step (Expr-F.Call name args at) = 1 + sum args
expression_nodes_step (Expr-F.Unary op operand at) = 1 + operand
expression_nodes_step (Expr-F.Binary op left right at) = 1 + left + right
expression_nodes_step (Expr-F.Logic is_and left right at) = 1 + left + right
expression_nodes_step (Expr-F.Choose test a b at) = 1 + test + a + b
expression_nodes_step (Expr-F.Assign op place right at) = 1 + place + right
expression_nodes_step (Expr-F.Bump up before place at) = 1 + place
expression_nodes_step (Expr-F.Comma left right at) = 1 + left + right
expression_nodes_step (Expr-F.Paren inner at) = 1 + inner

abbrev pub expression_nodes : Expr → ℕ
expression_nodes = fold-Expr ℕ expression_nodes_step

-- one for each declarator, and the nodes of its initialiser
abbrev pub local_nodes : Local → ℕ
local_nodes d = 1 + or_zero expression_nodes d.first

-- one for each statement and each label
abbrev pub statement_nodes_step : Stmt-F ℕ ℕ → ℕ
statement_nodes_step Stmt-F.Empty = 1
statement_nodes_step (Stmt-F.Value e) = 1 + expression_nodes e
statement_nodes_step (Stmt-F.Declare locals) = 1 + sum (map local_nodes locals)
statement_nodes_step (Stmt-F.Block body) = 1 + sum body
statement_nodes_step (Stmt-F.If test a b) = 1 + expression_nodes test + a + or_zero (λ n. n) b
statement_nodes_step (Stmt-F.While test body) = 1 + expression_nodes test + body
statement_nodes_step (Stmt-F.Do body test) = 1 + body + expression_nodes test
statement_nodes_step (Stmt-F.For first test next body) = 1 + first + or_zero expression_nodes test + or_zero expression_nodes next + body
statement_nodes_step (Stmt-F.Switch test clauses) = 1 + expression_nodes test + sum clauses
statement_nodes_step (Stmt-F.Break at) = 1
statement_nodes_step (Stmt-F.Continue at) = 1
statement_nodes_step (Stmt-F.Return e at) = 1 + or_zero expression_nodes e

-- one for each label, and the nodes of its expression
abbrev pub label_nodes : Label → ℕ
label_nodes (label.Case e at) = 1 + expression_nodes e
label_nodes (label.Otherwise at) = 1

-- a clause of a `switch` itself isn't counted
abbrev pub clause_nodes_step : Clause-F ℕ ℕ → ℕ
clause_nodes_step c = sum (map label_nodes c.labels) + sum c.body

abbrev pub statement_nodes : Stmt → ℕ
statement_nodes = fold-Stmt ℕ ℕ statement_nodes_step clause_nodes_step

abbrev pub clause_nodes : Clause → ℕ
clause_nodes = fold-Clause ℕ ℕ statement_nodes_step clause_nodes_step

abbrev pub shape_nodes : Shape → ℕ
shape_nodes shape.Scalar = 0
shape_nodes (shape.Array length) = or_zero expression_nodes length

-- one for each declarator, and the nodes of its length and its initialisers
abbrev pub global_nodes : GlobalVar → ℕ
global_nodes g = 1 + shape_nodes g.shape + sum (map expression_nodes g.first)

-- a body itself isn't counted
abbrev pub body_nodes : List Stmt → ℕ
body_nodes body = sum (map statement_nodes body)

-- 6 for a function with a body, 1 for a prototype; and one for each parameter
abbrev pub function_nodes : Option (List Stmt) → List Param → ℕ
function_nodes None params = 1 + length params
function_nodes (Some body) params = 6 + length params + body_nodes body

abbrev pub item_nodes : TopItem → ℕ
item_nodes (item.Globals gs) = 1 + sum (map global_nodes gs)
item_nodes (item.Function f) = function_nodes f.body f.params

abbrev pub program_nodes : Program → ℕ
program_nodes program = sum (map item_nodes program.items)
