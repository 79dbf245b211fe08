-- The outcome of a choice and of a comma, from those of its operands.
use Rattle.std.proofs.Common.{◌≡◌, ℕ, ◌+◌, ◌<◌, ◌≤◌, zero, suc, List, [], ◌∷◌, map, sum, length, get_or, refl, sym, ap, ◌∙◌, subst, arith}
use Rattle.c_syntax.specs.declared.tree.Expr.{Expr, Choose, Comma, Call}
use Rattle.c_meaning.specs.declared.run.Value.{Value}
use Rattle.c_meaning.specs.Operators.{common}
use Rattle.c_meaning.specs.Run.{Outcome, and_then}
use Rattle.c_meaning.specs.Meaning.{Meaning, expression_step, expression, no_calls, choose, called}
use Rattle.c_constants.specs.Constant.{nowhere, constant_outcome}
use Rattle.c_constants.proofs.Views.{at-Choose, at-Comma, at-Call}
use Rattle.c_syntax.specs.Sizes.{expression_nodes}
use Rattle.std.proofs.lemmas.Grind.{common_steps}

pub comma_outcome : (e l r : Expr) (at : ℕ) (l' r' : Expr) (o : Outcome Value) → e ≡ Comma l r at → l' ≡ l → r' ≡ r → and_then (constant_outcome l') (λ _. (expression r').value no_calls) ≡ o → constant_outcome e ≡ o
comma_outcome e l r at l' r' o is p q h =
    ap constant_outcome is ∙ ap (λ m. m.value no_calls nowhere) (at-Comma Meaning expression_step l r at)
    ∙ ap (λ x. and_then (constant_outcome x) (λ _. (expression r).value no_calls)) (sym p) ∙ ap (λ x. and_then (constant_outcome l') (λ _. (expression x).value no_calls)) (sym q) ∙ h

abbrev chosen : Expr → Expr → Expr → Outcome Value
chosen t a b = choose (λ types. common ((expression a).is_unsigned types no_calls.is_unsigned) ((expression b).is_unsigned types no_calls.is_unsigned)) ((expression t).value no_calls) ((expression a).value no_calls) ((expression b).value no_calls) nowhere

pub choose_outcome : (e t a b : Expr) (at : ℕ) (t' a' b' : Expr) (o : Outcome Value) → e ≡ Choose t a b at → t' ≡ t → a' ≡ a → b' ≡ b → chosen t' a' b' ≡ o → constant_outcome e ≡ o
choose_outcome e t a b at t' a' b' o is p q r h =
    ap constant_outcome is ∙ ap (λ m. m.value no_calls nowhere) (at-Choose Meaning expression_step t a b at)
    ∙ ap (λ x. chosen x a b) (sym p) ∙ ap (λ x. chosen t' x b) (sym q) ∙ ap (λ x. chosen t' a' x) (sym r) ∙ h

abbrev calling : ℕ → List Expr → Outcome Value
calling name args = called no_calls name (map (λ e. e.value no_calls) (map expression args)) nowhere

pub call_outcome : (e : Expr) (name : ℕ) (args : List Expr) (at : ℕ) (args' : List Expr) (o : Outcome Value) → e ≡ Call name args at → args' ≡ args → calling name args' ≡ o → constant_outcome e ≡ o
call_outcome e name args at args' o is p h =
    ap constant_outcome is ∙ ap (λ m. m.value no_calls nowhere) (at-Call Meaning expression_step name args at) ∙ ap (calling name) (sym p) ∙ h

sum_more : (n : ℕ) (ns : List ℕ) → sum (n ∷ ns) ≡ n + sum ns
sum_more n ns = grind (arith, common_steps)

-- an element of a list has at most as many nodes as the list
pub nodes_item : (xs : List Expr) (i : ℕ) (x : Expr) → i < length xs → x ≡ get_or xs i x → expression_nodes x ≤ sum (map expression_nodes xs)
nodes_item [] i x l e = absurd (omega arith)
nodes_item (y ∷ ys) zero x l e = let h : expression_nodes x ≡ expression_nodes y = ap expression_nodes e in omega (arith, sum_more (expression_nodes y) (map expression_nodes ys))
nodes_item (y ∷ ys) (suc i) x l e = let h : expression_nodes x ≤ sum (map expression_nodes ys) = nodes_item ys i x (omega arith) e in omega (arith, sum_more (expression_nodes y) (map expression_nodes ys))
