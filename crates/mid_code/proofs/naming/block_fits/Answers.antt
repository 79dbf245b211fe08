use Rattle.mid_code.proofs.Tests.{block_then, block_else}
use Rattle.mid_code.proofs.naming.block_fits.Goals as goal

pub returns-then-steps_fit : goal.returns-then-steps_fit
returns-then-steps_fit c = block_then c.args.bound c.args.block.now.steps c.as_slice.result.now c.args.block.now.end c.steps_fit.result c.end_fits.result c.as_slice.ensures c.steps_fit.ensures c.if-steps_fit.true c.end_fits.ensures

pub returns-else-steps_fit : goal.returns-else-steps_fit
returns-else-steps_fit c = block_else c.args.bound c.args.block.now.steps c.as_slice.result.now c.args.block.now.end c.steps_fit.result c.as_slice.ensures c.steps_fit.ensures c.if-steps_fit.false
