use Rattle.eval_parts.proofs.Steps.{begins_index, begins_unary, begins_choose, begins_assign}
use Rattle.eval_parts.proofs.begins.expression.Goals as goal

pub returns-in-Index-clause-begins : goal.returns-in-Index-clause-begins
returns-in-Index-clause-begins c = begins_index c.args.e c.in-Index.name c.in-Index.index c.in-Index.at c.place_of.result c.in-Index.is c.place_of.ensures

pub returns-in-Unary-clause-begins : goal.returns-in-Unary-clause-begins
returns-in-Unary-clause-begins c = begins_unary c.args.e c.in-Unary.op c.in-Unary.of c.in-Unary.at c.get.result c.value_of.result c.in-Unary.is c.get.ensures c.value_of.ensures

pub returns-in-Choose-clause-begins : goal.returns-in-Choose-clause-begins
returns-in-Choose-clause-begins c = begins_choose c.args.e c.in-Choose.test c.in-Choose.yes c.in-Choose.no c.in-Choose.at c.get-in-Choose.result c.get-in-Choose-2.result c.get-in-Choose-3.result c.value_of-in-Choose.result c.in-Choose.is c.get-in-Choose.ensures c.get-in-Choose-2.ensures c.get-in-Choose-3.ensures c.value_of-in-Choose.ensures

pub returns-in-Assign-clause-begins : goal.returns-in-Assign-clause-begins
returns-in-Assign-clause-begins c = begins_assign c.args.e c.in-Assign.op c.in-Assign.place c.in-Assign.value c.in-Assign.at c.get-in-Assign.result c.get-in-Assign-2.result c.place_of-in-Assign.result c.in-Assign.is c.get-in-Assign.ensures c.get-in-Assign-2.ensures c.place_of-in-Assign.ensures
