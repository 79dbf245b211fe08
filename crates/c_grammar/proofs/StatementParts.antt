-- The depth of a statement, and whether it is open, by what it is made of.
use Rattle.std.proofs.Common.{◌≡◌, ◌≤◌, ◌+◌, ℕ, true, false, List, map, max, Option, Some, None, sym, arith, subst}
use Rattle.c_syntax.specs.Sizes.{expression_depth, label_depth, clause_depth, statement_depth, statement_depth_step, clause_depth_step, local_depth, or_zero, greatest}
use Rattle.c_syntax.specs.declared.tree.Expr.{Expr}
use Rattle.c_syntax.specs.declared.tree.Local.{Local}
use Rattle.c_syntax.specs.declared.tree.Label.{Label}
use Rattle.c_syntax.specs.declared.tree.Clause.{Clause}
use Rattle.c_syntax.specs.declared.tree.Stmt.{Stmt, Empty, Value, Declare, Block, If, While, Do, For, Switch, Break, Continue, Return, fold_out-Stmt}
use Rattle.c_syntax.specs.declared.tree.Stmt.TheOpen.{Stmt-F}
use Rattle.c_syntax.specs.declared.tree.Stmt.TheFolds.{the_lemmas}
use Rattle.c_grammar.specs.Statements.{is_open, clause_of}

pub depth_empty : statement_depth Empty ≡ 1
depth_empty = simp the_lemmas

pub depth_value : (e : Expr) → statement_depth (Value e) ≡ 1 + expression_depth e
depth_value e = simp the_lemmas

pub depth_declare : (ls : List Local) → statement_depth (Declare ls) ≡ 1 + greatest (map local_depth ls)
depth_declare ls = simp the_lemmas

pub depth_block : (body : List Stmt) → statement_depth (Block body) ≡ 1 + greatest (map statement_depth body)
depth_block body = simp the_lemmas

pub depth_if_only : (test : Expr) (a : Stmt) → statement_depth (If test a None) ≡ 1 + max (expression_depth test) (max (statement_depth a) 0)
depth_if_only test a = simp the_lemmas

pub depth_if_else : (test : Expr) (a b : Stmt) → statement_depth (If test a (Some b)) ≡ 1 + max (expression_depth test) (max (statement_depth a) (statement_depth b))
depth_if_else test a b = simp the_lemmas

pub depth_while : (test : Expr) (body : Stmt) → statement_depth (While test body) ≡ 1 + max (expression_depth test) (statement_depth body)
depth_while test body = simp the_lemmas

pub depth_do : (body : Stmt) (test : Expr) → statement_depth (Do body test) ≡ 1 + max (statement_depth body) (expression_depth test)
depth_do body test = simp the_lemmas

pub depth_for : (first : Stmt) (test next : Option Expr) (body : Stmt) → statement_depth (For first test next body) ≡ 1 + max (statement_depth first) (max (or_zero expression_depth test) (max (or_zero expression_depth next) (statement_depth body)))
depth_for first test next body = simp the_lemmas

pub depth_switch : (test : Expr) (clauses : List Clause) → statement_depth (Switch test clauses) ≡ 1 + max (expression_depth test) (greatest (map clause_depth clauses))
depth_switch test clauses = simp the_lemmas

pub depth_clause : (ls : List Label) (cs : List Stmt) → clause_depth (clause_of ls cs) ≡ max (greatest (map label_depth ls)) (greatest (map statement_depth cs))
depth_clause ls cs = simp the_lemmas

pub depth_break : (at : ℕ) → statement_depth (Break at) ≡ 1
depth_break at = simp the_lemmas

pub depth_continue : (at : ℕ) → statement_depth (Continue at) ≡ 1
depth_continue at = simp the_lemmas

pub depth_return : (e : Option Expr) (at : ℕ) → statement_depth (Return e at) ≡ 1 + or_zero expression_depth e
depth_return e at = simp the_lemmas

step_positive : (y : Stmt-F ℕ ℕ) → 1 ≤ statement_depth_step y
step_positive Stmt-F.Empty = omega arith
step_positive (Stmt-F.Value e) = omega arith
step_positive (Stmt-F.Declare ls) = omega arith
step_positive (Stmt-F.Block body) = omega arith
step_positive (Stmt-F.If test a b) = omega arith
step_positive (Stmt-F.While test body) = omega arith
step_positive (Stmt-F.Do body test) = omega arith
step_positive (Stmt-F.For first test next body) = omega arith
step_positive (Stmt-F.Switch test clauses) = omega arith
step_positive (Stmt-F.Break at) = omega arith
step_positive (Stmt-F.Continue at) = omega arith
step_positive (Stmt-F.Return e at) = omega arith

pub statement_positive : (c : Stmt) → 1 ≤ statement_depth c
statement_positive c = subst (λ n. 1 ≤ n) (sym (fold_out-Stmt ℕ ℕ statement_depth_step clause_depth_step c)) (step_positive _)

pub open_empty : is_open Empty ≡ false
open_empty = simp the_lemmas

pub open_value : (e : Expr) → is_open (Value e) ≡ false
open_value e = simp the_lemmas

pub open_declare : (ls : List Local) → is_open (Declare ls) ≡ false
open_declare ls = simp the_lemmas

pub open_block : (body : List Stmt) → is_open (Block body) ≡ false
open_block body = simp the_lemmas

pub open_if_only : (test : Expr) (a : Stmt) → is_open (If test a None) ≡ true
open_if_only test a = simp the_lemmas

pub open_if_else : (test : Expr) (a b : Stmt) → is_open (If test a (Some b)) ≡ is_open b
open_if_else test a b = simp the_lemmas

pub open_while : (test : Expr) (body : Stmt) → is_open (While test body) ≡ is_open body
open_while test body = simp the_lemmas

pub open_do : (body : Stmt) (test : Expr) → is_open (Do body test) ≡ false
open_do body test = simp the_lemmas

pub open_for : (first : Stmt) (test next : Option Expr) (body : Stmt) → is_open (For first test next body) ≡ is_open body
open_for first test next body = simp the_lemmas

pub open_switch : (test : Expr) (clauses : List Clause) → is_open (Switch test clauses) ≡ false
open_switch test clauses = simp the_lemmas

pub open_break : (at : ℕ) → is_open (Break at) ≡ false
open_break at = simp the_lemmas

pub open_continue : (at : ℕ) → is_open (Continue at) ≡ false
open_continue at = simp the_lemmas

pub open_return : (e : Option Expr) (at : ℕ) → is_open (Return e at) ≡ false
open_return e at = simp the_lemmas
