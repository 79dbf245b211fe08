use Rattle.std.proofs.Common.{◌≡◌, ◌++◌, List, ap, ◌∙◌, refl, sym}
use Rattle.check_rules.specs.Limits.{CallSite, expression_calls}
use Rattle.check_limits.proofs.CallSites.{first_of, first_more, calls-Choose, calls_of_two}
use Rattle.check_limits.proofs.calls.+expressions.Goals as goal

two : {a a' b b' : List CallSite} → a ≡ a' → b ≡ b' → a ++ b ≡ a' ++ b'
two p q = cc

pub in_expressions-loop-e-preserved : goal.in_expressions-loop-e-preserved
in_expressions-loop-e-preserved t c =
    first_more c.args.weights.now expression_calls c.args.all.now c.loop-e.e-index c.e-item.result c.loop-e.first c.in_expression.result c.or-first.result c.loop-e-test.true c.e-item.is c.loop-e.invariant c.in_expression.ensures c.or-first.ensures

pub in_expression-returns-in-Choose : goal.in_expression-returns-in-Choose
in_expression-returns-in-Choose t c =
    let w = c.args.weights.now in
    let a = expression_calls c.get.result.now in
    let b = expression_calls c.get-in-Choose.result.now in
    let d = expression_calls c.get-in-Choose-2.result.now in
    let later = first_of w c.in_expression-yes.result c.in_expression.result c.or-in-Choose.result b d (b ++ d) c.in_expression-yes.ensures c.in_expression.ensures c.or-in-Choose.ensures refl in
    first_of w c.in_expression-test.result c.or-in-Choose.result c.or-in-Choose-2.result a (b ++ d) (expression_calls c.args.e.now) c.in_expression-test.ensures later c.or-in-Choose-2.ensures
    (ap expression_calls c.in-Choose.is ∙ calls-Choose c.in-Choose.test c.in-Choose.yes c.in-Choose.no c.in-Choose.at
    ∙ two (ap expression_calls (sym c.get.ensures)) (two (ap expression_calls (sym c.get-in-Choose.ensures)) (ap expression_calls (sym c.get-in-Choose-2.ensures))))

pub in_expression-returns-in-Binary : goal.in_expression-returns-in-Binary
in_expression-returns-in-Binary t c =
    first_of c.args.weights.now c.in_expression-left.result c.in_expression-in-Binary.result c.or-in-Binary.result (expression_calls c.get-in-Binary.result.now) (expression_calls c.get-in-Binary-2.result.now) (expression_calls c.args.e.now)
    c.in_expression-left.ensures c.in_expression-in-Binary.ensures c.or-in-Binary.ensures
    (calls_of_two c.args.e.now c.in-Binary.left c.in-Binary.right c.in-Binary.is ∙ two (ap expression_calls (sym c.get-in-Binary.ensures)) (ap expression_calls (sym c.get-in-Binary-2.ensures)))
