use Rattle.std.proofs.Common.{map, sum, arith, ap}
use Rattle.c_syntax.specs.Costs.{expression_cost}
use Rattle.c_meaning.proofs.Firsts.{cost-Call}
use Rattle.c_costs.proofs.costs.+cost_of_expression.Goals as goal

pub cost_of_expression-returns-in-Call : goal.cost_of_expression-returns-in-Call
cost_of_expression-returns-in-Call t c = omega (arith, ap (expression_cost c.args.bodies.now) c.in-Call.is, cost-Call c.args.bodies.now c.in-Call.name c.in-Call.args c.in-Call.at, c.cost_of_call.ensures, c.cost_of_expressions.ensures, ap (λ xs. sum (map (expression_cost c.args.bodies.now) xs)) c.as_slice.ensures, c.saturating_add.ensures)
