use Rattle.std.proofs.Common.{arith}
use Rattle.c_syntax.specs.Sizes.{item_nodes}
use Rattle.lower_functions.proofs.Listed.{one_of_sum, none_bare}
use Rattle.lower_functions.proofs.whole.push_all.Goals as goal

pub push_item-requires-clause-nodes : goal.push_item-requires-clause-nodes
push_item-requires-clause-nodes c =
    omega (arith, one_of_sum item_nodes c.args.items.now c.loop-item.item-index c.item-item.result (omega (arith, c.loop-item-test.true)) c.item-item.is, c.requires.nodes)

pub push_item-requires-clause-labels : goal.push_item-requires-clause-labels
push_item-requires-clause-labels c =
    none_bare c.args.items.now c.loop-item.item-index c.item-item.result (omega (arith, c.loop-item-test.true)) c.item-item.is c.requires.labels
