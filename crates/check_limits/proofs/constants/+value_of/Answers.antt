use Rattle.check_limits.proofs.Nowhere.{fails-Unary, fails_of_five, on_err, comma_outcome, choose_outcome, ok_of, err_of}
use Rattle.check_limits.proofs.constants.+value_of.Goals as goal

pub value_of-returns-in_err-x-in-Unary-clause-err : goal.value_of-returns-in_err-x-in-Unary-clause-err
value_of-returns-in_err-x-in-Unary-clause-err t c =
    on_err c.from_residual.result (fails-Unary c.args.e.now c.get.result.now c.in-Unary.of c.in-Unary.op c.in-Unary.at c.in-Unary.is c.get.ensures c.in_err-x-in-Unary.ensures.err)

pub value_of-returns-in-Choose-clause-ok : goal.value_of-returns-in-Choose-clause-ok
value_of-returns-in-Choose-clause-ok t c =
    ok_of c.choose.result _ _ (choose_outcome c.args.e.now c.in-Choose.test c.in-Choose.yes c.in-Choose.no c.in-Choose.at c.get-in-Choose.result.now c.get-in-Choose-2.result.now c.get-in-Choose-3.result.now c.in-Choose.is c.get-in-Choose.ensures c.get-in-Choose-2.ensures c.get-in-Choose-3.ensures) c.choose.ensures.ok

pub value_of-returns-in-Choose-clause-err : goal.value_of-returns-in-Choose-clause-err
value_of-returns-in-Choose-clause-err t c =
    err_of c.choose.result _ _ (choose_outcome c.args.e.now c.in-Choose.test c.in-Choose.yes c.in-Choose.no c.in-Choose.at c.get-in-Choose.result.now c.get-in-Choose-2.result.now c.get-in-Choose-3.result.now c.in-Choose.is c.get-in-Choose.ensures c.get-in-Choose-2.ensures c.get-in-Choose-3.ensures) c.choose.ensures.err

pub value_of-returns-in-Comma-clause-ok : goal.value_of-returns-in-Comma-clause-ok
value_of-returns-in-Comma-clause-ok t c =
    ok_of c.comma.result _ _ (comma_outcome c.args.e.now c.in-Comma.left c.in-Comma.right c.in-Comma.at c.get-in-Comma.result.now c.get-in-Comma-2.result.now c.in-Comma.is c.get-in-Comma.ensures c.get-in-Comma-2.ensures) c.comma.ensures.ok

pub value_of-returns-in-Comma-clause-err : goal.value_of-returns-in-Comma-clause-err
value_of-returns-in-Comma-clause-err t c =
    err_of c.comma.result _ _ (comma_outcome c.args.e.now c.in-Comma.left c.in-Comma.right c.in-Comma.at c.get-in-Comma.result.now c.get-in-Comma-2.result.now c.in-Comma.is c.get-in-Comma.ensures c.get-in-Comma-2.ensures) c.comma.ensures.err

pub value_of-returns-in-Name-2-clause-err : goal.value_of-returns-in-Name-2-clause-err
value_of-returns-in-Name-2-clause-err t c = fails_of_five c.args.e.now c.in-Name.is

pub value_of-returns-in-Name-4-clause-err : goal.value_of-returns-in-Name-4-clause-err
value_of-returns-in-Name-4-clause-err t c = fails_of_five c.args.e.now c.in-Name.is

pub value_of-returns-in-Name-5-clause-err : goal.value_of-returns-in-Name-5-clause-err
value_of-returns-in-Name-5-clause-err t c = fails_of_five c.args.e.now c.in-Name.is
