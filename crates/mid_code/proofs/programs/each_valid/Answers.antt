use Rattle.std.proofs.Common.{rules, arith, refl}
use Rattle.mid_blocks.specs.Valid.{ValidFunction}
use Rattle.mid_code.proofs.Counting.{within_more, all_within}
use Rattle.mid_code.proofs.programs.each_valid.Goals as goal

pub loop-function-preserved : goal.loop-function-preserved
loop-function-preserved c = within_more ValidFunction c.args.functions.now c.loop-function.function-index c.function-item.result c.loop-function-test.true c.function-item.is c.loop-function.invariant (c.valid_function.ensures.0 (search rules))

pub returns : goal.returns
returns c = (λ t. all_within ValidFunction c.args.functions.now c.loop-function.function-index (omega arith) c.loop-function.invariant, λ all. refl)
