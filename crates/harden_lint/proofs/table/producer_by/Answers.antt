use Rattle.std.proofs.Common.{sym, ◌∙◌}
use Rattle.mips_text.specs.Typing.{master, shadow}
use Rattle.harden_lint.specs.StreamTests.{products}
use Rattle.harden_lint.proofs.MaskBits.{first_stream, second_stream, no_stream}
use Rattle.harden_lint.proofs.table.producer_by.Goals as goal

pub returns-then-master_products : goal.returns-then-master_products
returns-then-master_products c =
    first_stream (products c.args.text.now c.args.bits.now master c.args.a) (products c.args.text.now c.args.bits.now shadow c.args.a) (sym c.master_products.ensures ∙ c.if-master_products.true)

pub returns-then-shadow_products : goal.returns-then-shadow_products
returns-then-shadow_products c =
    second_stream (products c.args.text.now c.args.bits.now master c.args.a) (products c.args.text.now c.args.bits.now shadow c.args.a) (sym c.master_products.ensures ∙ c.if-master_products.false)
    (sym c.shadow_products.ensures ∙ c.if-shadow_products.true)

pub returns-else-shadow_products : goal.returns-else-shadow_products
returns-else-shadow_products c =
    no_stream (products c.args.text.now c.args.bits.now master c.args.a) (products c.args.text.now c.args.bits.now shadow c.args.a) (sym c.master_products.ensures ∙ c.if-master_products.false)
    (sym c.shadow_products.ensures ∙ c.if-shadow_products.false)
