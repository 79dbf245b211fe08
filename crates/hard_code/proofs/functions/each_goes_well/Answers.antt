use Rattle.std.proofs.Common.{◌≡◌, ◌∙◌, sym, ap, length, true, below_more}
use Rattle.hard_code.specs.Tested.{goes_well, leave_at}
use Rattle.hard_code.proofs.functions.each_goes_well.Goals as goal

pub loop-block-preserved : goal.loop-block-preserved
loop-block-preserved c =
    below_more (λ b. goes_well (length c.args.blocks.now) c.args.entries.now b (leave_at c.args.blocks.now b) ≡ true) c.loop-block.block c.loop-block.invariant
    (ap (λ l. goes_well (length c.args.blocks.now) c.args.entries.now c.loop-block.block l) (sym c.leave_at.ensures) ∙ (sym c.goes_well.ensures ∙ c.if-not-goes_well.false))
