use Rattle.std.proofs.Common.{sym, ◌∙◌}
use Rattle.third_lint.proofs.MaskBits.{no_producer}
use Rattle.third_lint.proofs.table.producer.Goals as goal

pub returns-else-after_product : goal.returns-else-after_product
returns-else-after_product c = no_producer c.args.text.now c.args.starts.now c.args.a (sym c.after_product.ensures ∙ c.if-after_product.false)
