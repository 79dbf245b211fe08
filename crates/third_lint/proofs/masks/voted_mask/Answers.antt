use Rattle.std.proofs.Common.{◌-◌}
use Rattle.third_lint.specs.RuleTests.{voted_from}
use Rattle.third_lint.proofs.MaskBits.{three_masks, voted_mask_of}
use Rattle.third_lint.proofs.masks.voted_mask.Goals as goal

pub returns : goal.returns
returns c = voted_mask_of c.args.text.now c.args.entered.now c.args.a _
    (three_masks (λ r. voted_from c.args.text.now c.args.entered.now (c.args.a - 24) c.args.a r) (λ r. voted_from c.args.text.now c.args.entered.now (c.args.a - 28) c.args.a r)
    (λ r. voted_from c.args.text.now c.args.entered.now (c.args.a - 32) c.args.a r) c.voted_by-first.result c.voted_by-next.result c.voted_by-last.result c.voted_by-first.ensures c.voted_by-next.ensures c.voted_by-last.ensures)
