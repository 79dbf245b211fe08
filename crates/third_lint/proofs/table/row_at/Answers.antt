use Rattle.third_lint.proofs.MaskBits.{row_for}
use Rattle.third_lint.proofs.table.row_at.Goals as goal

pub returns : goal.returns
returns c = row_for c.args.text.now c.args.starts.now c.args.entered.now c.args.a c.voted_mask-voted.result c.producer-products.result c.requires.text c.requires.word c.voted_mask-voted.ensures c.producer-products.ensures
