use Rattle.std.proofs.Common.{arith, length, take, length-append, ap, ◌∙◌}
use Rattle.lower_names.specs.Calls.{chosen}
use Rattle.lower_names.proofs.Numbers.{chosen_next, item_chosen, one_noted}
use Rattle.lower_names.proofs.calls.note_all.Goals as goal

pub note_item-requires : goal.note_item-requires
note_item-requires c =
    omega (arith, item_chosen c.args.of_main c.args.main c.args.items.now c.loop-item.item-index c.item-item.result (omega (arith, c.loop-item-test.true)) c.item-item.is, c.loop-item.invariant.0, c.requires)

pub loop-item-preserved : goal.loop-item-preserved
loop-item-preserved c =
    let next = chosen_next c.args.of_main c.args.main c.args.items.now c.loop-item.item-index c.item-item.result (omega (arith, c.loop-item-test.true)) c.item-item.is in (
      omega (arith, ap length next ∙ length-append (chosen c.args.of_main c.args.main (take c.loop-item.item-index c.args.items.now)) _, c.loop-item.invariant.0, c.in_ok-next.ensures.next),
      one_noted c.args.number c.loop-item.next _ _ _ _ _ _ c.loop-item.invariant.0 next c.loop-item.invariant.1 c.in_ok-next.ensures.notes,
    )
