use Rattle.harden_lint.proofs.MaskBits.{row_for}
use Rattle.harden_lint.proofs.table.row_at.Goals as goal

pub returns : goal.returns
returns c = row_for c.args.text.now c.args.bits.now c.args.a c.guarded_mask-guarded.result c.producer-products.result c.requires.text c.requires.word c.guarded_mask-guarded.ensures c.producer-products.ensures
