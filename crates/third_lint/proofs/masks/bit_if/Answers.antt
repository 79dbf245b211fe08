use Rattle.third_lint.proofs.MaskBits.{own_mask}
use Rattle.third_lint.proofs.masks.bit_if.Goals as goal

pub returns-then-r-lt32 : goal.returns-then-r-lt32
returns-then-r-lt32 c = own_mask c.args.r c.bit.result c.args.holds c.if-holds.true c.if-r-lt32.true c.bit.ensures
