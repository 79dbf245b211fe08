-- An expression has some work.
use Rattle.std.proofs.Common.{◌≡◌, ℕ, ◌+◌, ◌<◌, ◌≤◌, List, [], ◌∷◌, Option, None, Some, sym, subst, arith}
use Rattle.c_syntax.specs.declared.tree.Expr.{Expr, fold_out-Expr}
use Rattle.c_syntax.specs.declared.tree.Expr.TheOpen.{Expr-F}
use Rattle.c_syntax.specs.declared.tree.TopItem.{TopItem}
use Rattle.c_meaning.specs.declared.run.EvalEnd.{EvalEnd}
use Rattle.eval_parts.specs.declared.part.Now.TheVariants as now
use Rattle.eval_parts.specs.declared.part.Next.{Next}
use Rattle.eval_parts.specs.Work.{args_work, expression_work, expression_work_step, next_work}

args_positive : (call : ℕ) (ns : List ℕ) → 1 ≤ args_work call ns
args_positive call [] = omega arith
args_positive call (n ∷ ns) = omega arith

step_positive : (call : ℕ) (e : Expr-F ℕ) → 1 ≤ expression_work_step call e
step_positive call (Expr-F.Literal word is_unsigned at) = omega arith
step_positive call (Expr-F.Name name at) = omega arith
step_positive call (Expr-F.Index name index at) = omega arith
step_positive call (Expr-F.Call name args at) = args_positive call args
step_positive call (Expr-F.Unary op operand at) = omega arith
step_positive call (Expr-F.Binary op left right at) = omega arith
step_positive call (Expr-F.Logic is_and left right at) = omega arith
step_positive call (Expr-F.Choose test a b at) = omega arith
step_positive call (Expr-F.Assign op place right at) = omega arith
step_positive call (Expr-F.Bump up before place at) = omega arith
step_positive call (Expr-F.Comma left right at) = omega arith
step_positive call (Expr-F.Paren inner at) = omega arith

work_positive : (call : ℕ) (e : Expr) → 1 ≤ expression_work call e
work_positive call e = subst (λ n. 1 ≤ n) (sym (fold_out-Expr ℕ (expression_work_step call) e)) (step_positive call _)

pub end_falls : (e : Expr) (end : EvalEnd) (n : Next) → n ≡ record { now = now.Over end; waiting = None } → (most call : ℕ) (items : List TopItem) → next_work most call items n < expression_work call e
end_falls e end n that most call items = let some : 1 ≤ expression_work call e = work_positive call e in rw that (omega arith)
