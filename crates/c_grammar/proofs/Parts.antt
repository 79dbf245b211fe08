-- The depth and the form of a tree, by what it is made of.
use Rattle.std.proofs.Common.{◌≡◌, ◌≤◌, ◌+◌, ℕ, Bool, true, false, List, map, max, Option, sym, arith, subst}
use Rattle.c_syntax.specs.declared.tree.BinaryOp.{BinaryOp}
use Rattle.c_syntax.specs.declared.tree.Expr.{Expr, Literal, Name, Index, Call, Choose, Assign, Bump, Comma, Paren, fold_out-Expr}
use Rattle.c_syntax.specs.declared.tree.Expr.TheOpen.{Expr-F}
use Rattle.c_syntax.specs.declared.tree.Expr.TheFolds.{the_lemmas}
use Rattle.c_grammar.specs.declared.operators.Infix.{Infix}
use Rattle.c_grammar.specs.declared.operators.Infix.TheVariants as infixes
use Rattle.c_grammar.specs.declared.operators.Prefix.{Prefix}
use Rattle.c_grammar.specs.declared.operators.Prefix.TheVariants as prefixes
use Rattle.c_grammar.specs.Operators.{joined, prefixed}
use Rattle.c_syntax.specs.Sizes.{expression_depth as depth, expression_depth_step as depth_step, greatest}
use Rattle.c_grammar.specs.ReadExpressions.{is_unary}

pub depth_literal : (v : ℕ) (u : Bool) (at : ℕ) → depth (Literal v u at) ≡ 1
depth_literal v u at = simp the_lemmas

pub depth_name : (v at : ℕ) → depth (Name v at) ≡ 1
depth_name v at = simp the_lemmas

pub depth_index : (n : ℕ) (e : Expr) (at : ℕ) → depth (Index n e at) ≡ 1 + (depth e)
depth_index n e at = simp the_lemmas

pub depth_call : (n : ℕ) (es : List Expr) (at : ℕ) → depth (Call n es at) ≡ 1 + (greatest (map depth es))
depth_call n es at = simp the_lemmas

pub depth_paren : (e : Expr) (at : ℕ) → depth (Paren e at) ≡ 1 + (depth e)
depth_paren e at = simp the_lemmas

pub depth_bump : (up before : Bool) (e : Expr) (at : ℕ) → depth (Bump up before e at) ≡ 1 + (depth e)
depth_bump up before e at = simp the_lemmas

pub depth_prefixed : (op : Prefix) (e : Expr) (at : ℕ) → depth (prefixed op e at) ≡ 1 + (depth e)
depth_prefixed (prefixes.Plain op) e at = simp the_lemmas
depth_prefixed (prefixes.Bump up) e at = simp the_lemmas

pub depth_joined : (op : Infix) (l r : Expr) (at : ℕ) → depth (joined op l r at) ≡ 1 + (max (depth l) (depth r))
depth_joined (infixes.Plain op) l r at = simp the_lemmas
depth_joined (infixes.Logic is_and) l r at = simp the_lemmas

pub depth_comma : (l r : Expr) (at : ℕ) → depth (Comma l r at) ≡ 1 + (max (depth l) (depth r))
depth_comma l r at = simp the_lemmas

pub depth_choose : (t a b : Expr) (at : ℕ) → depth (Choose t a b at) ≡ 1 + (max (depth t) (max (depth a) (depth b)))
depth_choose t a b at = simp the_lemmas

pub depth_assign : (op : Option BinaryOp) (p v : Expr) (at : ℕ) → depth (Assign op p v at) ≡ 1 + (max (depth p) (depth v))
depth_assign op p v at = simp the_lemmas

pub unary_joined : (op : Infix) (l r : Expr) (at : ℕ) → is_unary (joined op l r at) ≡ false
unary_joined (infixes.Plain op) l r at = simp the_lemmas
unary_joined (infixes.Logic is_and) l r at = simp the_lemmas

pub unary_choose : (t a b : Expr) (at : ℕ) → is_unary (Choose t a b at) ≡ false
unary_choose t a b at = simp the_lemmas

pub unary_assign : (op : Option BinaryOp) (p v : Expr) (at : ℕ) → is_unary (Assign op p v at) ≡ false
unary_assign op p v at = simp the_lemmas

pub unary_comma : (l r : Expr) (at : ℕ) → is_unary (Comma l r at) ≡ false
unary_comma l r at = simp the_lemmas

pub unary_prefixed : (op : Prefix) (e : Expr) (at : ℕ) → is_unary (prefixed op e at) ≡ true
unary_prefixed (prefixes.Plain op) e at = simp the_lemmas
unary_prefixed (prefixes.Bump up) e at = simp the_lemmas

pub unary_bump : (up before : Bool) (e : Expr) (at : ℕ) → is_unary (Bump up before e at) ≡ true
unary_bump up before e at = simp the_lemmas

pub unary_literal : (v : ℕ) (u : Bool) (at : ℕ) → is_unary (Literal v u at) ≡ true
unary_literal v u at = simp the_lemmas

pub unary_name : (v at : ℕ) → is_unary (Name v at) ≡ true
unary_name v at = simp the_lemmas

pub unary_index : (n : ℕ) (e : Expr) (at : ℕ) → is_unary (Index n e at) ≡ true
unary_index n e at = simp the_lemmas

pub unary_call : (n : ℕ) (es : List Expr) (at : ℕ) → is_unary (Call n es at) ≡ true
unary_call n es at = simp the_lemmas

pub unary_paren : (e : Expr) (at : ℕ) → is_unary (Paren e at) ≡ true
unary_paren e at = simp the_lemmas

step_positive : (y : Expr-F ℕ) → 1 ≤ depth_step y
step_positive (Expr-F.Literal value is_unsigned at) = omega arith
step_positive (Expr-F.Name name at) = omega arith
step_positive (Expr-F.Index name index at) = omega arith
step_positive (Expr-F.Call name args at) = omega arith
step_positive (Expr-F.Unary op of at) = omega arith
step_positive (Expr-F.Binary op left right at) = omega arith
step_positive (Expr-F.Logic is_and left right at) = omega arith
step_positive (Expr-F.Choose test a b at) = omega arith
step_positive (Expr-F.Assign op place value at) = omega arith
step_positive (Expr-F.Bump up before place at) = omega arith
step_positive (Expr-F.Comma left right at) = omega arith
step_positive (Expr-F.Paren of at) = omega arith

pub depth_positive : (e : Expr) → 1 ≤ depth e
depth_positive e = subst (λ n. 1 ≤ n) (sym (fold_out-Expr ℕ depth_step e)) (step_positive _)
