use Rattle.std.proofs.Common.{◌<◌, ◌≤◌, suc, arith}
use Rattle.eval_parts.specs.Work.{next_work, turns_work, round_of}
use Rattle.eval_parts.proofs.Lessening.{turns_more}
use Rattle.eval_statements.proofs.loops.whole_loop.Goals as goal

pub returns-clause-falls : goal.returns-clause-falls
returns-clause-falls c = λ most call items h.
    let round = round_of most call c.args.turn in
    let step : next_work most call items c.tested.result < turns_work round (suc c.fuel.result) = c.tested.ensures.falls most call items in
    let more : turns_work round (suc c.fuel.result) ≤ turns_work round (suc most) = turns_more round (suc c.fuel.result) (suc most) (omega (arith, c.fuel.ensures)) in
    omega arith
