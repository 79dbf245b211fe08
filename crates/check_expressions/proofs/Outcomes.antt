-- The outcome of a choice and of a comma, from those of its operands.
use Rattle.std.proofs.Common.{◌≡◌, ℕ, sym, ap, ◌∙◌}
use Rattle.c_syntax.specs.declared.tree.Expr.{Expr, Choose, Comma}
use Rattle.c_meaning.specs.declared.run.Value.{Value}
use Rattle.c_meaning.specs.Operators.{common}
use Rattle.c_meaning.specs.Run.{Outcome, and_then}
use Rattle.c_meaning.specs.Meaning.{Meaning, expression_step, expression, no_calls, choose}
use Rattle.check_expressions.specs.Constant.{nowhere, constant_outcome}
use Rattle.check_rules.proofs.Views.{at-Choose, at-Comma}

pub comma_outcome : (e l r : Expr) (at : ℕ) (l' r' : Expr) (o : Outcome Value) → e ≡ Comma l r at → l' ≡ l → r' ≡ r → and_then (constant_outcome l') (λ _. (expression r').value no_calls) ≡ o → constant_outcome e ≡ o
comma_outcome e l r at l' r' o is p q h =
    ap constant_outcome is ∙ ap (λ m. m.value no_calls nowhere) (at-Comma Meaning expression_step l r at)
    ∙ ap (λ x. and_then (constant_outcome x) (λ _. (expression r).value no_calls)) (sym p) ∙ ap (λ x. and_then (constant_outcome l') (λ _. (expression x).value no_calls)) (sym q) ∙ h

abbrev chosen : Expr → Expr → Expr → Outcome Value
chosen t a b = choose (λ types. common ((expression a).is_unsigned types no_calls.is_unsigned) ((expression b).is_unsigned types no_calls.is_unsigned)) ((expression t).value no_calls) ((expression a).value no_calls) ((expression b).value no_calls) nowhere

pub choose_outcome : (e t a b : Expr) (at : ℕ) (t' a' b' : Expr) (o : Outcome Value) → e ≡ Choose t a b at → t' ≡ t → a' ≡ a → b' ≡ b → chosen t' a' b' ≡ o → constant_outcome e ≡ o
choose_outcome e t a b at t' a' b' o is p q r h =
    ap constant_outcome is ∙ ap (λ m. m.value no_calls nowhere) (at-Choose Meaning expression_step t a b at)
    ∙ ap (λ x. chosen x a b) (sym p) ∙ ap (λ x. chosen t' x b) (sym q) ∙ ap (λ x. chosen t' a' x) (sym r) ∙ h
