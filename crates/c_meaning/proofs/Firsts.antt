-- The temporaries of the first arguments with one more, and the cost of a call.
use Rattle.std.proofs.Common.{◌≡◌, ℕ, zero, suc, ◌+◌, ◌<◌, max, List, [], ◌∷◌, map, sum, take, length, get_or, sym, ap, ◌∙◌, arith}
use Rattle.c_syntax.specs.declared.tree.Expr.{Expr, Call, fold-roll-Expr}
use Rattle.c_syntax.specs.declared.tree.Expr.TheOpen.{Expr-F}
use Rattle.c_syntax.specs.declared.tree.Expr.TheVariants.{rolls-Call}
use Rattle.c_syntax.specs.declared.tree.TopItem.{TopItem}
use Rattle.c_syntax.specs.Costs.{need, argument_temps, temps, call_cost, expression_cost, expression_cost_step}

one_more : (xs : List Expr) (j i : ℕ) (x : Expr) → i < length xs → x ≡ get_or xs i x → argument_temps j (map need (take (suc i) xs)) ≡ max (argument_temps j (map need (take i xs))) (j + i + temps x)
one_more [] j i x lt is = absurd (omega arith)
one_more (y ∷ ys) j zero x lt is = let e : temps x ≡ temps y = ap temps is in omega (arith, e)
one_more (y ∷ ys) j (suc i) x lt is = omega (arith, one_more ys (suc j) i x (omega arith) is)

-- the temporaries with the argument that comes next
pub arguments_more : (xs : List Expr) (i : ℕ) (x : Expr) → i < length xs → x ≡ get_or xs i x → argument_temps 0 (map need (take (i + 1) xs)) ≡ max (argument_temps 0 (map need (take i xs))) (0 + i + temps x)
arguments_more xs i x lt is = let e : i + 1 ≡ suc i = omega arith in rw e (one_more xs 0 i x lt is)

pub cost-Call : (items : List TopItem) (name : ℕ) (args : List Expr) (at : ℕ) → expression_cost items (Call name args at) ≡ call_cost items name + sum (map (expression_cost items) args)
cost-Call items name args at = ap (expression_cost items) (sym (rolls-Call name args at)) ∙ fold-roll-Expr ℕ (expression_cost_step items) (Expr-F.Call name args at)
