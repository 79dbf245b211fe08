use Rattle.std.proofs.Common.{arith, length}
use Rattle.mid_code.proofs.Counting.{sum_past}
use Rattle.mid_code.proofs.programs.store_fits.Goals as goal

pub returns-then-len-words : goal.returns-then-len-words
returns-then-len-words c = sum_past length c.args.globals.now c.loop-global.global-index c.global-item.result c.args.chain_pairs 32768 c.loop-global-test.true c.global-item.is (omega arith)
