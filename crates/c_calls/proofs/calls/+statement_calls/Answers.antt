use Rattle.std.proofs.Common.{◌++◌, append-nil, ap, ◌∙◌, refl, sym}
use Rattle.std.specs.List.{flat_map}
use Rattle.c_syntax.specs.Graph.{or_none, expression_calls, label_calls, statement_calls, clause_calls}
use Rattle.c_calls.proofs.Lists.{after_two, calls-Block, calls-If, calls-While, calls-Do, calls-For, calls-Switch, calls-Clause}
use Rattle.c_calls.proofs.calls.+statement_calls.Goals as goal

pub add_clause-returns : goal.add_clause-returns
add_clause-returns t c =
    after_two c.args.calls.now c.add_labels.new.calls c.add_statements.new.calls _ _ (clause_calls c.args.clause.now) c.in_ok-add_labels.ensures c.in_ok-add_statements.ensures
    (calls-Clause c.args.clause.now.labels c.args.clause.now.body ∙ ap (λ l. flat_map label_calls l ++ flat_map statement_calls c.args.clause.now.body) (sym c.as_slice.ensures) ∙ ap (λ l. flat_map label_calls c.as_slice.result.now ++ flat_map statement_calls l) (sym c.as_slice-2.ensures))

pub add_statement-returns-in-Block : goal.add_statement-returns-in-Block
add_statement-returns-in-Block t c = let e = ap statement_calls c.in-Block.is ∙ calls-Block c.in-Block.body ∙ ap (flat_map statement_calls) (sym c.as_slice-in-Block.ensures) in rw e c.add_statements.ensures

pub add_statement-returns-in-None : goal.add_statement-returns-in-None
add_statement-returns-in-None t c =
    after_two c.args.calls.now c.add_expression-in-If.new.calls c.add_statement.new.calls _ _ (statement_calls c.args.c.now) c.in_ok-add_expression-in-If.ensures c.in_ok-add_statement-in-If.ensures
    (ap statement_calls c.in-If.is ∙ calls-If c.in-If.test c.in-If.yes c.in-If.no ∙ ap (λ o. expression_calls c.in-If.test ++ statement_calls c.in-If.yes ++ or_none statement_calls o) c.in-None.is ∙ append-nil (expression_calls c.in-If.test ++ statement_calls c.in-If.yes)
    ∙ ap (λ s. expression_calls c.in-If.test ++ statement_calls s) (sym c.get.ensures))

pub add_statement-returns-in_ok-add_statement-in-Some : goal.add_statement-returns-in_ok-add_statement-in-Some
add_statement-returns-in_ok-add_statement-in-Some t c =
    let first = after_two c.args.calls.now c.add_expression-in-If.new.calls c.add_statement.new.calls _ _ (expression_calls c.in-If.test ++ statement_calls c.get.result.now) c.in_ok-add_expression-in-If.ensures c.in_ok-add_statement-in-If.ensures refl in
    after_two c.args.calls.now c.add_statement.new.calls c.add_statement-in-Some.new.calls _ _ (statement_calls c.args.c.now) first c.in_ok-add_statement-in-Some.ensures
    (ap statement_calls c.in-If.is ∙ calls-If c.in-If.test c.in-If.yes c.in-If.no ∙ ap (λ o. expression_calls c.in-If.test ++ statement_calls c.in-If.yes ++ or_none statement_calls o) c.in-Some.is
    ∙ ap (λ s. expression_calls c.in-If.test ++ statement_calls s ++ statement_calls c.in-Some.no) (sym c.get.ensures) ∙ ap (λ s. expression_calls c.in-If.test ++ statement_calls c.get.result.now ++ statement_calls s) (sym c.get-in-Some.ensures))

pub add_statement-returns-in_ok-add_statement-in-While : goal.add_statement-returns-in_ok-add_statement-in-While
add_statement-returns-in_ok-add_statement-in-While t c =
    after_two c.args.calls.now c.add_expression-in-While.new.calls c.add_statement-in-While.new.calls _ _ (statement_calls c.args.c.now) c.in_ok-add_expression-in-While.ensures c.in_ok-add_statement-in-While.ensures
    (ap statement_calls c.in-While.is ∙ calls-While c.in-While.test c.in-While.body ∙ ap (λ s. expression_calls c.in-While.test ++ statement_calls s) (sym c.get-in-While.ensures))

pub add_statement-returns-in_ok-add_expression-in-Do : goal.add_statement-returns-in_ok-add_expression-in-Do
add_statement-returns-in_ok-add_expression-in-Do t c =
    after_two c.args.calls.now c.add_statement-in-Do.new.calls c.add_expression-in-Do.new.calls _ _ (statement_calls c.args.c.now) c.in_ok-add_statement-in-Do.ensures c.in_ok-add_expression-in-Do.ensures
    (ap statement_calls c.in-Do.is ∙ calls-Do c.in-Do.body c.in-Do.test ∙ ap (λ s. statement_calls s ++ expression_calls c.in-Do.test) (sym c.get-in-Do.ensures))

pub add_statement-returns-in_ok-add_statement-in-For-2 : goal.add_statement-returns-in_ok-add_statement-in-For-2
add_statement-returns-in_ok-add_statement-in-For-2 t c =
    let two = after_two c.args.calls.now c.add_statement-in-For.new.calls c.add_option.new.calls _ _ (statement_calls c.get-in-For.result.now ++ or_none expression_calls c.in-For.test) c.in_ok-add_statement-in-For.ensures c.in_ok-add_option-in-For.ensures refl in
    let three = after_two c.args.calls.now c.add_option.new.calls c.add_option-in-For.new.calls _ _ (statement_calls c.get-in-For.result.now ++ or_none expression_calls c.in-For.test ++ or_none expression_calls c.in-For.next) two c.in_ok-add_option-in-For-2.ensures refl in
    after_two c.args.calls.now c.add_option-in-For.new.calls c.add_statement-in-For-2.new.calls _ _ (statement_calls c.args.c.now) three c.in_ok-add_statement-in-For-2.ensures
    (ap statement_calls c.in-For.is ∙ calls-For c.in-For.first c.in-For.test c.in-For.next c.in-For.body
    ∙ ap (λ s. statement_calls s ++ or_none expression_calls c.in-For.test ++ or_none expression_calls c.in-For.next ++ statement_calls c.in-For.body) (sym c.get-in-For.ensures)
    ∙ ap (λ s. statement_calls c.get-in-For.result.now ++ or_none expression_calls c.in-For.test ++ or_none expression_calls c.in-For.next ++ statement_calls s) (sym c.get-in-For-2.ensures))

pub add_statement-returns-in_ok-add_clauses-in-Switch : goal.add_statement-returns-in_ok-add_clauses-in-Switch
add_statement-returns-in_ok-add_clauses-in-Switch t c =
    after_two c.args.calls.now c.add_expression-in-Switch.new.calls c.add_clauses.new.calls _ _ (statement_calls c.args.c.now) c.in_ok-add_expression-in-Switch.ensures c.in_ok-add_clauses-in-Switch.ensures
    (ap statement_calls c.in-Switch.is ∙ calls-Switch c.in-Switch.test c.in-Switch.clauses ∙ ap (λ l. expression_calls c.in-Switch.test ++ flat_map clause_calls l) (sym c.as_slice-in-Switch.ensures))
