use Rattle.harden_lint.specs.StreamTests.{guarded_from}
use Rattle.harden_lint.proofs.MaskBits.{four_masks, guarded_mask_of}
use Rattle.harden_lint.proofs.table.guarded_mask.Goals as goal

pub returns : goal.returns
returns c = guarded_mask_of c.args.text.now c.args.bits.now c.args.a _
    (four_masks (λ r k. guarded_from c.args.text.now c.args.bits.now r k c.args.a) c.args.a c.mask_from-first.result c.mask_from-second.result c.mask_from-third.result c.mask_from-fourth.result
    c.mask_from-first.ensures c.mask_from-second.ensures c.mask_from-third.ensures c.mask_from-fourth.ensures)
