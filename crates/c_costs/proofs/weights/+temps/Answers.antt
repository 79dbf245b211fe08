use Rattle.std.proofs.Common.{arith}
use Rattle.c_syntax.specs.Costs.{clause_temps, statement_temps}
use Rattle.c_syntax.proofs.Greatest.{greatest_more}
use Rattle.c_costs.proofs.weights.+temps.Goals as goal

pub temps_of_clauses-loop-clause-preserved : goal.temps_of_clauses-loop-clause-preserved
temps_of_clauses-loop-clause-preserved t c = omega (arith, greatest_more clause_temps c.args.all.now c.loop-clause.clause-index c.clause-item.result c.loop-clause-test.true c.clause-item.is, c.loop-clause.invariant, c.temps_of_clause.ensures, c.max-most.ensures)

pub temps_of_statements-loop-c-preserved : goal.temps_of_statements-loop-c-preserved
temps_of_statements-loop-c-preserved t c = omega (arith, greatest_more statement_temps c.args.all.now c.loop-c.c-index c.c-item.result c.loop-c-test.true c.c-item.is, c.loop-c.invariant, c.temps_of_statement.ensures, c.max-most.ensures)
