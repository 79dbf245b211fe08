use Rattle.std.proofs.Common.{◌*◌, ◌<◌, arith}
use Rattle.c_syntax.specs.Sizes.{expression_nodes}
use Rattle.lower_expressions.specs.Names.{names_of}
use Rattle.lower_expressions.proofs.Arguments.{nodes_item, item_blocks, next_blocks}
use Rattle.lower_expressions.proofs.counts.+counts.Goals as goal

pub argument_blocks-value_blocks-count-requires : goal.argument_blocks-value_blocks-count-requires
argument_blocks-value_blocks-count-requires t c =
    let h = nodes_item c.args.args.now c.loop-e.e-index c.e-item.result (omega (arith, c.loop-e-test.true)) c.e-item.is in
    let k = item_blocks (names_of c.args.table.now) c.args.args.now c.loop-e.e-index c.e-item.result (omega (arith, c.loop-e-test.true)) c.e-item.is in
    let less : 4 * expression_nodes c.e-item.result < t = omega (arith, h, c.decreases) in
    (less, omega (arith, k, c.requires))

pub argument_blocks-overflow_add-count : goal.argument_blocks-overflow_add-count
argument_blocks-overflow_add-count t c =
    let k = next_blocks (names_of c.args.table.now) c.args.args.now c.loop-e.e-index c.e-item.result (omega (arith, c.loop-e-test.true)) c.e-item.is in
    omega (arith, k, c.loop-e.invariant, c.requires, c.value_blocks-count.ensures)

pub argument_blocks-loop-e-preserved : goal.argument_blocks-loop-e-preserved
argument_blocks-loop-e-preserved t c =
    let k = next_blocks (names_of c.args.table.now) c.args.args.now c.loop-e.e-index c.e-item.result (omega (arith, c.loop-e-test.true)) c.e-item.is in
    omega (arith, k, c.loop-e.invariant, c.value_blocks-count.ensures)
