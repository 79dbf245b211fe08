use Rattle.harden_lint.proofs.MaskBits.{own_mask}
use Rattle.harden_lint.proofs.pairs.bit_if.Goals as goal

pub returns-then-r-lt32 : goal.returns-then-r-lt32
returns-then-r-lt32 c = own_mask c.args.r c.bit.result c.args.holds c.if-holds.true c.if-r-lt32.true c.bit.ensures
