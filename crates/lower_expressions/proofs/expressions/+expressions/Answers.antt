use Rattle.std.proofs.Common.{◌+◌, ◌*◌, ◌<◌, ◌∙◌, arith}
use Rattle.c_syntax.specs.Sizes.{expression_nodes}
use Rattle.lower_expressions.specs.Names.{names_of}
use Rattle.lower_expressions.specs.Written.{written}
use Rattle.lower_expressions.proofs.Arguments.{nodes_item, next_blocks, next_nodes, next_lines, some_nodes, many_nodes}
use Rattle.lower_expressions.proofs.expressions.+expressions.Goals as goal

pub arguments-value-requires : goal.arguments-value-requires
arguments-value-requires t c =
    let h = nodes_item c.args.args.now c.loop-e.e-index c.e-item.result (omega (arith, c.loop-e-test.true)) c.e-item.is in
    let k = next_blocks (names_of c.args.table.now) c.args.args.now c.loop-e.e-index c.e-item.result (omega (arith, c.loop-e-test.true)) c.e-item.is in
    let n = next_nodes c.args.args.now c.loop-e.e-index c.e-item.result (omega (arith, c.loop-e-test.true)) c.e-item.is in
    let less : 4 * expression_nodes c.e-item.result + 1 < t = omega (arith, h, c.decreases) in
    (less, (c.requires.known, (omega (arith, k, c.loop-e.invariant.count, c.requires.blocks), omega (arith, n, c.loop-e.invariant.room))))

pub arguments-overflow_add-to : goal.arguments-overflow_add-to
arguments-overflow_add-to t c =
    let n = next_nodes c.args.args.now c.loop-e.e-index c.e-item.result (omega (arith, c.loop-e-test.true)) c.e-item.is in
    omega (arith, n, some_nodes c.e-item.result, c.loop-e.invariant.room)

pub arguments-loop-e-preserved : goal.arguments-loop-e-preserved
arguments-loop-e-preserved t c =
    let k = next_blocks (names_of c.args.table.now) c.args.args.now c.loop-e.e-index c.e-item.result (omega (arith, c.loop-e-test.true)) c.e-item.is in
    let n = next_nodes c.args.args.now c.loop-e.e-index c.e-item.result (omega (arith, c.loop-e-test.true)) c.e-item.is in record {
      put = next_lines (names_of c.args.table.now) (written c.loop-e.out) _ c.args.args.now c.loop-e.e-index c.e-item.result c.loop-e.block _ c.loop-e.to (omega (arith, c.loop-e-test.true)) c.e-item.is c.in_ok-after.ensures.lines c.in_ok-after.ensures.block ∙ c.loop-e.invariant.put;
      count = omega (arith, k, c.loop-e.invariant.count, c.in_ok-after.ensures.block);
      room = omega (arith, n, some_nodes c.e-item.result, c.loop-e.invariant.room);
    }

pub call-put_call-requires : goal.call-put_call-requires
call-put_call-requires t c = omega (arith, many_nodes c.args.args.now, c.requires.room)
