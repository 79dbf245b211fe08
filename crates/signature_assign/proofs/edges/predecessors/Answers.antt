use Rattle.std.proofs.Common.{arith, length, ap, ◌∙◌}
use Rattle.signature_assign.specs.Edges.{backward}
use Rattle.signature_assign.proofs.Backward.{slice_within, turn_more, added_long}
use Rattle.signature_assign.proofs.edges.predecessors.Goals as goal

pub add_block-requires : goal.add_block-requires
add_block-requires c =
    slice_within c.args.successors.now c.loop-next.next-index _ c.next-item.result c.as_slice.result.now c.requires.edges c.loop-next-test.true c.next-item.is c.as_slice.ensures
    (omega (arith, c.loop-next.lists.ok, c.loop-next.invariant.long))

pub loop-next-preserved : goal.loop-next-preserved
loop-next-preserved c = record {
  at = omega arith;
  long = ap length c.in_ok-add_block.ensures ∙ added_long c.loop-next.block c.as_slice.result.now c.loop-next.lists.items ∙ c.loop-next.invariant.long;
  turns = turn_more c.args.successors.now c.loop-next.lists.items c.add_block.new.lists.items (backward c.args.successors.now) c.loop-next.next-index c.loop-next.block c.next-item.result c.as_slice.result.now
      c.loop-next-test.true c.next-item.is c.as_slice.ensures c.in_ok-add_block.ensures c.loop-next.invariant.turns;
}
