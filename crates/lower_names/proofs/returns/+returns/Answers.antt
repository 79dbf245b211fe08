use Rattle.std.proofs.Common.{◌∙◌, sym, arith}
use Rattle.lower_rules.specs.Programs.{returns_value}
use Rattle.lower_names.specs.Parts.{clause_returns}
use Rattle.lower_names.proofs.Parts.{some_found}
use Rattle.lower_names.proofs.returns.+returns.Goals as goal

pub clauses_return-returns-then-clause_returns : goal.clauses_return-returns-then-clause_returns
clauses_return-returns-then-clause_returns t c =
    some_found clause_returns c.args.all.now c.loop-clause.clause-index c.clause-item.result (omega (arith, c.loop-clause-test.true)) c.clause-item.is (sym c.clause_returns.ensures ∙ c.if-clause_returns.true)

pub returns_value-returns-then-statement_returns : goal.returns_value-returns-then-statement_returns
returns_value-returns-then-statement_returns t c =
    some_found returns_value c.args.body.now c.loop-c.c-index c.c-item.result (omega (arith, c.loop-c-test.true)) c.c-item.is (sym c.statement_returns.ensures ∙ c.if-statement_returns.true)
