use Rattle.std.proofs.Common.{◌≡◌, ◌++◌, ◌∷◌, [], ap, ◌∙◌, refl, sym}
use Rattle.std.specs.List.{flat_map}
use Rattle.c_syntax.specs.declared.tree.Expr.{Expr}
use Rattle.c_syntax.specs.Graph.{expression_calls}
use Rattle.c_calls.proofs.Lists.{after_two, calls-Call, calls-Choose, calls_of_two}
use Rattle.c_calls.proofs.calls.+expression_calls.Goals as goal

two : {a a' b b' : Expr} → a ≡ a' → b ≡ b' → expression_calls a ++ expression_calls b ≡ expression_calls a' ++ expression_calls b'
two p q = cc

three : {a a' b b' c c' : Expr} → a ≡ a' → b ≡ b' → c ≡ c' → expression_calls a ++ expression_calls b ++ expression_calls c ≡ expression_calls a' ++ expression_calls b' ++ expression_calls c'
three p q r = cc

pub add_expression-returns-in_ok-add_expressions-in-Call : goal.add_expression-returns-in_ok-add_expressions-in-Call
add_expression-returns-in_ok-add_expressions-in-Call t c =
    after_two c.args.calls.now c.push.new.self c.add_expressions.new.calls (c.in-Call.name ∷ []) (flat_map expression_calls c.as_slice.result.now) (expression_calls c.args.e.now)
    (c.in_ok-push-in-Call.ensures.ok) (c.in_ok-add_expressions-in-Call.ensures)
    (ap expression_calls c.in-Call.is ∙ calls-Call c.in-Call.name c.in-Call.args c.in-Call.at ∙ ap (λ l. c.in-Call.name ∷ flat_map expression_calls l) (sym c.as_slice.ensures))

pub add_expression-returns-in_ok-add_expression-in-Choose-3 : goal.add_expression-returns-in_ok-add_expression-in-Choose-3
add_expression-returns-in_ok-add_expression-in-Choose-3 t c =
    let whole : expression_calls c.args.e.now ≡ expression_calls c.get.result.now ++ expression_calls c.get-in-Choose.result.now ++ expression_calls c.get-in-Choose-2.result.now =
    ap expression_calls c.in-Choose.is ∙ calls-Choose c.in-Choose.test c.in-Choose.yes c.in-Choose.no c.in-Choose.at
    ∙ three (sym c.get.ensures) (sym c.get-in-Choose.ensures) (sym c.get-in-Choose-2.ensures) in
    let first = after_two c.args.calls.now c.add_expression.new.calls c.add_expression-in-Choose.new.calls (expression_calls c.get.result.now) (expression_calls c.get-in-Choose.result.now) _ c.in_ok-add_expression-in-Choose.ensures c.in_ok-add_expression-in-Choose-2.ensures refl in
    after_two c.args.calls.now c.add_expression-in-Choose.new.calls c.add_expression-in-Choose-2.new.calls (expression_calls c.get.result.now ++ expression_calls c.get-in-Choose.result.now) (expression_calls c.get-in-Choose-2.result.now) (expression_calls c.args.e.now) first c.in_ok-add_expression-in-Choose-3.ensures whole

pub add_expression-returns-in_ok-add_expression-in-Binary-2 : goal.add_expression-returns-in_ok-add_expression-in-Binary-2
add_expression-returns-in_ok-add_expression-in-Binary-2 t c =
    let whole : expression_calls c.args.e.now ≡ expression_calls c.get-in-Binary.result.now ++ expression_calls c.get-in-Binary-2.result.now =
    calls_of_two c.args.e.now c.in-Binary.left c.in-Binary.right c.in-Binary.is ∙ two (sym c.get-in-Binary.ensures) (sym c.get-in-Binary-2.ensures) in
    after_two c.args.calls.now c.add_expression-in-Binary.new.calls c.add_expression-in-Binary-2.new.calls (expression_calls c.get-in-Binary.result.now) (expression_calls c.get-in-Binary-2.result.now) (expression_calls c.args.e.now) c.in_ok-add_expression-in-Binary.ensures c.in_ok-add_expression-in-Binary-2.ensures whole
