-- The meaning of an expression and of a statement at each constructor, as contracts see them.
use Rattle.std.proofs.Common.{◌≡◌, ℕ, List, map, Option, sym, ap, ◌∙◌}
use Rattle.c_syntax.specs.declared.tree.Expr.{Expr, Call, fold-roll-Expr}
use Rattle.c_syntax.specs.declared.tree.Expr.TheOpen.{Expr-F}
use Rattle.c_syntax.specs.declared.tree.Expr.TheVariants.{rolls-Call}
use Rattle.c_syntax.specs.declared.tree.Stmt.{Value, Return, fold-roll-Stmt}
use Rattle.c_syntax.specs.declared.tree.Stmt.TheOpen.{Stmt-F}
use Rattle.c_syntax.specs.declared.tree.Stmt.TheVariants.{rolls-Value, rolls-Return}
use Rattle.c_meaning.specs.Meaning.{Meaning, expression, expression_step, Statement, Labelled, statement, statement_step, clause_step}

pub expression-Call : (name : ℕ) (args : List Expr) (at : ℕ) → expression (Call name args at) ≡ expression_step (Expr-F.Call name (map expression args) at)
expression-Call name args at = ap expression (sym (rolls-Call name args at)) ∙ fold-roll-Expr Meaning expression_step (Expr-F.Call name args at)

pub statement-Value : (e : Expr) → statement (Value e) ≡ statement_step (Stmt-F.Value e)
statement-Value e = ap statement (sym (rolls-Value e)) ∙ fold-roll-Stmt Statement Labelled statement_step clause_step (Stmt-F.Value e)

pub statement-Return : (e : Option Expr) (at : ℕ) → statement (Return e at) ≡ statement_step (Stmt-F.Return e at)
statement-Return e at = ap statement (sym (rolls-Return e at)) ∙ fold-roll-Stmt Statement Labelled statement_step clause_step (Stmt-F.Return e at)
