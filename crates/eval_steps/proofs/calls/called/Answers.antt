use Rattle.std.proofs.Common.{◌+◌, ◌<◌, ◌≤◌, sym, subst, arith}
use Rattle.c_syntax.specs.Graph.{functions}
use Rattle.eval_parts.specs.declared.part.Next.{Next}
use Rattle.eval_parts.specs.Work.{next_work, bodies_work, function_work}
use Rattle.eval_parts.proofs.Lessening.{some_bodies_of, body_of_all}
use Rattle.eval_steps.proofs.calls.called.Goals as goal

pub returns-in-None-clause-falls : goal.returns-in-None-clause-falls
returns-in-None-clause-falls c = λ most call.
    let some : 4 ≤ bodies_work most call (functions c.args.code.now) = some_bodies_of most call c.args.code.now in
    subst (λ (n : Next). next_work most call c.args.code.now n < bodies_work most call (functions c.args.code.now)) (sym c.goes.ensures) (omega arith)

pub returns-in-Some-clause-falls : goal.returns-in-Some-clause-falls
returns-in-Some-clause-falls c = λ most call.
    let step : next_work most call c.args.code.now c.counted.result < function_work most call c.in-Some.f.now + 4 = c.counted.ensures.falls most call c.args.code.now in
    let all : function_work most call c.in-Some.f.now + 4 ≤ bodies_work most call (functions c.args.code.now) = body_of_all most call c.args.name c.args.code.now c.in-Some.f.now (sym c.in-Some.ensures) in
    omega arith
