-- A fold at each constructor of an expression and of a statement.
use Rattle.std.proofs.Common.{◌≡◌, ℕ, Bool, List, map, Option, Some, None, sym, ap, ◌∙◌, option_map}
use Rattle.c_syntax.specs.declared.tree.UnaryOp.{UnaryOp}
use Rattle.c_syntax.specs.declared.tree.BinaryOp.{BinaryOp}
use Rattle.c_syntax.specs.declared.tree.Expr.{Expr, Literal, Name, Index, Call, Unary, Binary, Logic, Choose, Assign, Bump, Comma, Paren, fold-Expr, fold-roll-Expr}
use Rattle.c_syntax.specs.declared.tree.Expr.TheOpen.{Expr-F}
use Rattle.c_syntax.specs.declared.tree.Expr.TheVariants.{rolls-Literal, rolls-Name, rolls-Index, rolls-Call, rolls-Unary, rolls-Binary, rolls-Logic, rolls-Choose, rolls-Assign, rolls-Bump, rolls-Comma, rolls-Paren}
use Rattle.c_syntax.specs.declared.tree.Local.{Local}
use Rattle.c_syntax.specs.declared.tree.Label.{Label}
use Rattle.c_syntax.specs.declared.tree.Clause.{Clause, fold-Clause, fold-roll-Clause}
use Rattle.c_syntax.specs.declared.tree.Stmt.{Stmt, fold-Stmt, fold-roll-Stmt}
use Rattle.c_syntax.specs.declared.tree.Stmt as stmt
use Rattle.c_syntax.specs.declared.tree.Stmt.TheOpen.{Stmt-F, Clause-F}
use Rattle.c_syntax.specs.declared.tree.Stmt.TheVariants.{rolls-Empty, rolls-Value, rolls-Declare, rolls-Block, rolls-If, rolls-While, rolls-Do, rolls-For, rolls-Switch, rolls-Break, rolls-Continue, rolls-Return}

module _ (A : Type 0) (step : Expr-F A → A) where
  abbrev over : Expr → A
  over = fold-Expr A step

  pub at-Literal : (word : ℕ) (is_unsigned : Bool) (at : ℕ) → fold-Expr A step (Literal word is_unsigned at) ≡ step (Expr-F.Literal word is_unsigned at)
  at-Literal word is_unsigned at = ap over (sym (rolls-Literal word is_unsigned at)) ∙ fold-roll-Expr A step (Expr-F.Literal word is_unsigned at)

  pub at-Name : (name : ℕ) (at : ℕ) → fold-Expr A step (Name name at) ≡ step (Expr-F.Name name at)
  at-Name name at = ap over (sym (rolls-Name name at)) ∙ fold-roll-Expr A step (Expr-F.Name name at)

  pub at-Index : (name : ℕ) (index : Expr) (at : ℕ) → fold-Expr A step (Index name index at) ≡ step (Expr-F.Index name (fold-Expr A step index) at)
  at-Index name index at = ap over (sym (rolls-Index name index at)) ∙ fold-roll-Expr A step (Expr-F.Index name index at)

  pub at-Call : (name : ℕ) (args : List Expr) (at : ℕ) → fold-Expr A step (Call name args at) ≡ step (Expr-F.Call name (map (fold-Expr A step) args) at)
  at-Call name args at = ap over (sym (rolls-Call name args at)) ∙ fold-roll-Expr A step (Expr-F.Call name args at)

  pub at-Unary : (op : UnaryOp) (operand : Expr) (at : ℕ) → fold-Expr A step (Unary op operand at) ≡ step (Expr-F.Unary op (fold-Expr A step operand) at)
  at-Unary op operand at = ap over (sym (rolls-Unary op operand at)) ∙ fold-roll-Expr A step (Expr-F.Unary op operand at)

  pub at-Binary : (op : BinaryOp) (left : Expr) (right : Expr) (at : ℕ) → fold-Expr A step (Binary op left right at) ≡ step (Expr-F.Binary op (fold-Expr A step left) (fold-Expr A step right) at)
  at-Binary op left right at = ap over (sym (rolls-Binary op left right at)) ∙ fold-roll-Expr A step (Expr-F.Binary op left right at)

  pub at-Logic : (is_and : Bool) (left : Expr) (right : Expr) (at : ℕ) → fold-Expr A step (Logic is_and left right at) ≡ step (Expr-F.Logic is_and (fold-Expr A step left) (fold-Expr A step right) at)
  at-Logic is_and left right at = ap over (sym (rolls-Logic is_and left right at)) ∙ fold-roll-Expr A step (Expr-F.Logic is_and left right at)

  pub at-Choose : (test : Expr) (a : Expr) (b : Expr) (at : ℕ) → fold-Expr A step (Choose test a b at) ≡ step (Expr-F.Choose (fold-Expr A step test) (fold-Expr A step a) (fold-Expr A step b) at)
  at-Choose test a b at = ap over (sym (rolls-Choose test a b at)) ∙ fold-roll-Expr A step (Expr-F.Choose test a b at)

  pub at-Assign : (op : Option BinaryOp) (place : Expr) (right : Expr) (at : ℕ) → fold-Expr A step (Assign op place right at) ≡ step (Expr-F.Assign op (fold-Expr A step place) (fold-Expr A step right) at)
  at-Assign op place right at = ap over (sym (rolls-Assign op place right at)) ∙ fold-roll-Expr A step (Expr-F.Assign op place right at)

  pub at-Bump : (up : Bool) (before : Bool) (place : Expr) (at : ℕ) → fold-Expr A step (Bump up before place at) ≡ step (Expr-F.Bump up before (fold-Expr A step place) at)
  at-Bump up before place at = ap over (sym (rolls-Bump up before place at)) ∙ fold-roll-Expr A step (Expr-F.Bump up before place at)

  pub at-Comma : (left : Expr) (right : Expr) (at : ℕ) → fold-Expr A step (Comma left right at) ≡ step (Expr-F.Comma (fold-Expr A step left) (fold-Expr A step right) at)
  at-Comma left right at = ap over (sym (rolls-Comma left right at)) ∙ fold-roll-Expr A step (Expr-F.Comma left right at)

  pub at-Paren : (inner : Expr) (at : ℕ) → fold-Expr A step (Paren inner at) ≡ step (Expr-F.Paren (fold-Expr A step inner) at)
  at-Paren inner at = ap over (sym (rolls-Paren inner at)) ∙ fold-roll-Expr A step (Expr-F.Paren inner at)

module _ (A A' : Type 0) (step : Stmt-F A A' → A) (step' : Clause-F A A' → A') where
  abbrev over_statement : Stmt → A
  over_statement = fold-Stmt A A' step step'

  pub on-Empty : fold-Stmt A A' step step' stmt.Empty ≡ step Stmt-F.Empty
  on-Empty = ap over_statement (sym rolls-Empty) ∙ fold-roll-Stmt A A' step step' Stmt-F.Empty

  pub on-Value : (e : Expr) → fold-Stmt A A' step step' (stmt.Value e) ≡ step (Stmt-F.Value e)
  on-Value e = ap over_statement (sym (rolls-Value e)) ∙ fold-roll-Stmt A A' step step' (Stmt-F.Value e)

  pub on-Declare : (locals : List Local) → fold-Stmt A A' step step' (stmt.Declare locals) ≡ step (Stmt-F.Declare locals)
  on-Declare locals = ap over_statement (sym (rolls-Declare locals)) ∙ fold-roll-Stmt A A' step step' (Stmt-F.Declare locals)

  pub on-Block : (body : List Stmt) → fold-Stmt A A' step step' (stmt.Block body) ≡ step (Stmt-F.Block (map (fold-Stmt A A' step step') body))
  on-Block body = ap over_statement (sym (rolls-Block body)) ∙ fold-roll-Stmt A A' step step' (Stmt-F.Block body)

  pub on-If : (test : Expr) (a : Stmt) (b : Option Stmt) → fold-Stmt A A' step step' (stmt.If test a b) ≡ step (Stmt-F.If test (fold-Stmt A A' step step' a) (option_map (fold-Stmt A A' step step') b))
  on-If test a None = ap over_statement (sym (rolls-If test a None)) ∙ fold-roll-Stmt A A' step step' (Stmt-F.If test a None)
  on-If test a (Some b) = ap over_statement (sym (rolls-If test a (Some b))) ∙ fold-roll-Stmt A A' step step' (Stmt-F.If test a (Some b))

  pub on-While : (test : Expr) (body : Stmt) → fold-Stmt A A' step step' (stmt.While test body) ≡ step (Stmt-F.While test (fold-Stmt A A' step step' body))
  on-While test body = ap over_statement (sym (rolls-While test body)) ∙ fold-roll-Stmt A A' step step' (Stmt-F.While test body)

  pub on-Do : (body : Stmt) (test : Expr) → fold-Stmt A A' step step' (stmt.Do body test) ≡ step (Stmt-F.Do (fold-Stmt A A' step step' body) test)
  on-Do body test = ap over_statement (sym (rolls-Do body test)) ∙ fold-roll-Stmt A A' step step' (Stmt-F.Do body test)

  pub on-For : (first : Stmt) (test : Option Expr) (next : Option Expr) (body : Stmt) → fold-Stmt A A' step step' (stmt.For first test next body) ≡ step (Stmt-F.For (fold-Stmt A A' step step' first) test next (fold-Stmt A A' step step' body))
  on-For first test next body = ap over_statement (sym (rolls-For first test next body)) ∙ fold-roll-Stmt A A' step step' (Stmt-F.For first test next body)

  pub on-Switch : (test : Expr) (clauses : List Clause) → fold-Stmt A A' step step' (stmt.Switch test clauses) ≡ step (Stmt-F.Switch test (map (fold-Clause A A' step step') clauses))
  on-Switch test clauses = ap over_statement (sym (rolls-Switch test clauses)) ∙ fold-roll-Stmt A A' step step' (Stmt-F.Switch test clauses)

  pub on-Break : (at : ℕ) → fold-Stmt A A' step step' (stmt.Break at) ≡ step (Stmt-F.Break at)
  on-Break at = ap over_statement (sym (rolls-Break at)) ∙ fold-roll-Stmt A A' step step' (Stmt-F.Break at)

  pub on-Continue : (at : ℕ) → fold-Stmt A A' step step' (stmt.Continue at) ≡ step (Stmt-F.Continue at)
  on-Continue at = ap over_statement (sym (rolls-Continue at)) ∙ fold-roll-Stmt A A' step step' (Stmt-F.Continue at)

  pub on-Return : (e : Option Expr) (at : ℕ) → fold-Stmt A A' step step' (stmt.Return e at) ≡ step (Stmt-F.Return e at)
  on-Return e at = ap over_statement (sym (rolls-Return e at)) ∙ fold-roll-Stmt A A' step step' (Stmt-F.Return e at)

  pub on-clause : (labels : List Label) (body : List Stmt) → fold-Clause A A' step step' (record { labels = labels; body = body }) ≡ step' (record { labels = labels; body = map (fold-Stmt A A' step step') body })
  on-clause labels body = fold-roll-Clause A A' step step' (record { labels = labels; body = body })
