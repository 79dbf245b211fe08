use Rattle.std.proofs.Common.{◌≡◌, ◌++◌, List, map, append-nil, ap, ◌∙◌, refl, sym}
use Rattle.check_rules.specs.Limits.{CallSite, joined, of_option, expression_calls, label_calls, statement_calls}
use Rattle.check_limits.specs.Tables.{clause_calls}
use Rattle.check_limits.proofs.CallSites.{first_of, first_more, calls-If, calls-While, calls-Do, calls-For, calls-Switch, calls-Clause}
use Rattle.check_limits.proofs.calls.+statements.Goals as goal

two : {a a' b b' : List CallSite} → a ≡ a' → b ≡ b' → a ++ b ≡ a' ++ b'
two p q = cc

pub in_clause-returns : goal.in_clause-returns
in_clause-returns t c =
    first_of c.args.weights.now c.in_labels-labels.result c.in_statements.result c.or.result (joined (map label_calls c.as_slice.result.now)) (joined (map statement_calls c.as_slice-2.result.now)) (clause_calls c.args.clause.now)
    c.in_labels-labels.ensures c.in_statements.ensures c.or.ensures
    (calls-Clause c.args.clause.now ∙ two (ap (λ l. joined (map label_calls l)) (sym c.as_slice.ensures)) (ap (λ l. joined (map statement_calls l)) (sym c.as_slice-2.ensures)))

pub in_clauses-loop-clause-preserved : goal.in_clauses-loop-clause-preserved
in_clauses-loop-clause-preserved t c =
    first_more c.args.weights.now clause_calls c.args.clauses.now c.loop-clause.clause-index c.clause-item.result c.loop-clause.first c.in_clause.result c.or-first.result c.loop-clause-test.true c.clause-item.is c.loop-clause.invariant c.in_clause.ensures c.or-first.ensures

pub in_statements-loop-c-preserved : goal.in_statements-loop-c-preserved
in_statements-loop-c-preserved t c =
    first_more c.args.weights.now statement_calls c.args.body.now c.loop-c.c-index c.c-item.result c.loop-c.first c.in_statement.result c.or-first.result c.loop-c-test.true c.c-item.is c.loop-c.invariant c.in_statement.ensures c.or-first.ensures

pub in_statement-returns-in-None : goal.in_statement-returns-in-None
in_statement-returns-in-None t c =
    first_of c.args.weights.now c.in_expression-test.result c.in_statement-yes.result c.or.result (expression_calls c.in-If.test) (statement_calls c.get.result.now) (statement_calls c.args.c.now)
    c.in_expression-test.ensures c.in_statement-yes.ensures c.or.ensures
    (ap statement_calls c.in-If.is ∙ calls-If c.in-If.test c.in-If.yes c.in-If.no
    ∙ ap (λ l. expression_calls c.in-If.test ++ l) (ap (λ o. statement_calls c.in-If.yes ++ of_option statement_calls o) c.in-None.is ∙ append-nil (statement_calls c.in-If.yes) ∙ ap statement_calls (sym c.get.ensures)))

pub in_statement-returns-in-Some : goal.in_statement-returns-in-Some
in_statement-returns-in-Some t c =
    let w = c.args.weights.now in
    let b = statement_calls c.get.result.now in
    let d = statement_calls c.get-in-Some.result.now in
    let later = first_of w c.in_statement-yes.result c.in_statement.result c.or-in-Some.result b d (b ++ d) c.in_statement-yes.ensures c.in_statement.ensures c.or-in-Some.ensures refl in
    first_of w c.in_expression-test.result c.or-in-Some.result c.or-in-Some-2.result (expression_calls c.in-If.test) (b ++ d) (statement_calls c.args.c.now) c.in_expression-test.ensures later c.or-in-Some-2.ensures
    (ap statement_calls c.in-If.is ∙ calls-If c.in-If.test c.in-If.yes c.in-If.no
    ∙ ap (λ l. expression_calls c.in-If.test ++ l) (two (ap statement_calls (sym c.get.ensures)) (ap (of_option statement_calls) c.in-Some.is ∙ ap statement_calls (sym c.get-in-Some.ensures))))

pub in_statement-returns-in-While : goal.in_statement-returns-in-While
in_statement-returns-in-While t c =
    first_of c.args.weights.now c.in_expression-test-in-While.result c.in_statement-in-While.result c.or-in-While.result (expression_calls c.in-While.test) (statement_calls c.get-in-While.result.now) (statement_calls c.args.c.now)
    c.in_expression-test-in-While.ensures c.in_statement-in-While.ensures c.or-in-While.ensures
    (ap statement_calls c.in-While.is ∙ calls-While c.in-While.test c.in-While.body ∙ ap (λ s. expression_calls c.in-While.test ++ statement_calls s) (sym c.get-in-While.ensures))

pub in_statement-returns-in-Do : goal.in_statement-returns-in-Do
in_statement-returns-in-Do t c =
    first_of c.args.weights.now c.in_statement-body.result c.in_expression-in-Do.result c.or-in-Do.result (statement_calls c.get-in-Do.result.now) (expression_calls c.in-Do.test) (statement_calls c.args.c.now)
    c.in_statement-body.ensures c.in_expression-in-Do.ensures c.or-in-Do.ensures
    (ap statement_calls c.in-Do.is ∙ calls-Do c.in-Do.body c.in-Do.test ∙ ap (λ s. statement_calls s ++ expression_calls c.in-Do.test) (sym c.get-in-Do.ensures))

pub in_statement-returns-in-For : goal.in_statement-returns-in-For
in_statement-returns-in-For t c =
    let w = c.args.weights.now in
    let a = statement_calls c.get-in-For.result.now in
    let b = of_option expression_calls c.in-For.test in
    let d = of_option expression_calls c.in-For.next in
    let e = statement_calls c.get-in-For-2.result.now in
    let last = first_of w c.in_option-next.result c.in_statement-in-For.result c.or-in-For.result d e (d ++ e) c.in_option-next.ensures c.in_statement-in-For.ensures c.or-in-For.ensures refl in
    let later = first_of w c.in_option-test.result c.or-in-For.result c.or-in-For-2.result b (d ++ e) (b ++ (d ++ e)) c.in_option-test.ensures last c.or-in-For-2.ensures refl in
    first_of w c.in_statement-first.result c.or-in-For-2.result c.or-in-For-3.result a (b ++ (d ++ e)) (statement_calls c.args.c.now) c.in_statement-first.ensures later c.or-in-For-3.ensures
    (ap statement_calls c.in-For.is ∙ calls-For c.in-For.first c.in-For.test c.in-For.next c.in-For.body
    ∙ two (ap statement_calls (sym c.get-in-For.ensures)) (ap (λ l. b ++ (d ++ l)) (ap statement_calls (sym c.get-in-For-2.ensures))))

pub in_statement-returns-in-Switch : goal.in_statement-returns-in-Switch
in_statement-returns-in-Switch t c =
    first_of c.args.weights.now c.in_expression-test-in-Switch.result c.in_clauses.result c.or-in-Switch.result (expression_calls c.in-Switch.test) (joined (map clause_calls c.as_slice-in-Switch.result.now)) (statement_calls c.args.c.now)
    c.in_expression-test-in-Switch.ensures c.in_clauses.ensures c.or-in-Switch.ensures
    (ap statement_calls c.in-Switch.is ∙ calls-Switch c.in-Switch.test c.in-Switch.clauses ∙ ap (λ l. expression_calls c.in-Switch.test ++ joined (map clause_calls l)) (sym c.as_slice-in-Switch.ensures))
