use Rattle.std.proofs.Common.{subst, length, List}
use Rattle.hard_items.specs.declared.code.HardBlock.{HardBlock}
use Rattle.hard_items.specs.declared.code.Item.{Item}
use Rattle.hard_code.specs.Tested.{ItemsFit}
use Rattle.hard_code.proofs.Lists.{within_more}
use Rattle.hard_code.proofs.programs.each_fits.Goals as goal

pub loop-block-preserved : goal.loop-block-preserved
loop-block-preserved c =
    within_more (λ (b : HardBlock). ItemsFit (length c.args.blocks.now) c.args.entries b.items) c.args.blocks.now c.loop-block.block-index c.block-item.result c.loop-block-test.true c.block-item.is c.loop-block.invariant
    (subst (λ (xs : List Item). ItemsFit (length c.args.blocks.now) c.args.entries xs) c.as_slice.ensures (c.items_fit.ensures.0 c.if-not-items_fit.false))
