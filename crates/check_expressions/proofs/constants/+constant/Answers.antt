use Rattle.check_expressions.proofs.Outcomes.{choose_outcome, comma_outcome}
use Rattle.check_expressions.proofs.constants.+constant.Goals as goal

pub constant-returns-in-Choose : goal.constant-returns-in-Choose
constant-returns-in-Choose t c = choose_outcome c.args.e.now c.in-Choose.test c.in-Choose.yes c.in-Choose.no c.in-Choose.at c.get-in-Choose.result.now c.get-in-Choose-2.result.now c.get-in-Choose-3.result.now _ c.in-Choose.is c.get-in-Choose.ensures c.get-in-Choose-2.ensures c.get-in-Choose-3.ensures c.choose.ensures

pub constant-returns-in-Comma : goal.constant-returns-in-Comma
constant-returns-in-Comma t c = comma_outcome c.args.e.now c.in-Comma.left c.in-Comma.right c.in-Comma.at c.get-in-Comma.result.now c.get-in-Comma-2.result.now _ c.in-Comma.is c.get-in-Comma.ensures c.get-in-Comma-2.ensures c.comma.ensures
