use Rattle.std.proofs.Common.{arith, ◌<◌, ◌*◌}
use Rattle.c_syntax.specs.Sizes.{expression_nodes}
use Rattle.c_constants.proofs.Outcomes.{choose_outcome, comma_outcome, call_outcome, nodes_item}
use Rattle.c_constants.proofs.constants.+constant.Goals as goal

pub value_of-returns-in-Choose : goal.value_of-returns-in-Choose
value_of-returns-in-Choose t c = choose_outcome c.args.e.now c.in-Choose.test c.in-Choose.yes c.in-Choose.no c.in-Choose.at c.get-in-Choose.result.now c.get-in-Choose-2.result.now c.get-in-Choose-3.result.now _ c.in-Choose.is c.get-in-Choose.ensures c.get-in-Choose-2.ensures c.get-in-Choose-3.ensures c.choose.ensures

pub value_of-returns-in-Comma : goal.value_of-returns-in-Comma
value_of-returns-in-Comma t c = comma_outcome c.args.e.now c.in-Comma.left c.in-Comma.right c.in-Comma.at c.get-in-Comma.result.now c.get-in-Comma-2.result.now _ c.in-Comma.is c.get-in-Comma.ensures c.get-in-Comma-2.ensures c.comma.ensures

pub value_of-returns-in-Call : goal.value_of-returns-in-Call
value_of-returns-in-Call t c = call_outcome c.args.e.now c.in-Call.name c.in-Call.args c.in-Call.at c.as_slice.result.now _ c.in-Call.is c.as_slice.ensures c.call.ensures

pub call-value_of-requires : goal.call-value_of-requires
call-value_of-requires t c =
    let h = nodes_item c.args.args.now c.loop-arg.arg-index c.arg-item.result (omega (arith, c.loop-arg-test.true)) c.arg-item.is in
    let less : 2 * expression_nodes c.arg-item.result < t = omega (arith, h, c.decreases) in
    (less, tt)
