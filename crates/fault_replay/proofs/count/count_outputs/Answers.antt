use Rattle.std.proofs.Common.{arith, ◌≡◌, ◌+◌, ◌≤◌, ◌∙◌, ap, sym, None}
use Rattle.fault_replay.proofs.Turns.{ended_early, more_state}
use Rattle.mips_isa.specs.Machine.{State}
use Rattle.mips_isa.specs.Runs.{Ran, run}
use Rattle.mips_machine.specs.View.{state_of}
use Rattle.fault_replay.specs.declared.count.Counted.{Counted}
use Rattle.fault_replay.specs.Counts.{counted}
use Rattle.fault_replay.proofs.Counting.{few, step_counted}
use Rattle.fault_replay.proofs.count.count_outputs.Goals as goal

pub returns-then-is_some-clause-counted : goal.returns-then-is_some-clause-counted
returns-then-is_some-clause-counted c =
    let s : State = state_of c.args.machine.now in
    let le : c.loop-n.n ≤ c.args.steps = omega arith in
    let whole : run s None c.args.steps ≡ run s None c.loop-n.n = ended_early s None c.loop-n.n c.args.steps (state_of c.loop-n.machine) _ le c.loop-n.invariant.state c.is_some.ensures c.if-is_some.true in
    c.loop-n.invariant.counted ∙ ap (λ (r : Ran). counted r.output) (sym whole)

pub returns-then-is_some-clause-state : goal.returns-then-is_some-clause-state
returns-then-is_some-clause-state c =
    let s : State = state_of c.args.machine.now in
    let le : c.loop-n.n ≤ c.args.steps = omega arith in
    let whole : run s None c.args.steps ≡ run s None c.loop-n.n = ended_early s None c.loop-n.n c.args.steps (state_of c.loop-n.machine) _ le c.loop-n.invariant.state c.is_some.ensures c.if-is_some.true in
    c.loop-n.invariant.state ∙ ap (λ (r : Ran). r.state) (sym whole)

pub loop-n-preserved : goal.loop-n-preserved
loop-n-preserved c =
    let s : State = state_of c.args.machine.now in
    let i = c.loop-n.invariant in
    let next : State = state_of c.step-word.new.self in
    let same : c.with_word-sofar.result ≡ counted (run s None (c.loop-n.n + 1)).output =
    c.with_word-sofar.ensures ∙ step_counted s c.loop-n.n (state_of c.loop-n.machine) next c.step-word.result c.loop-n.sofar i.state c.step-word.ensures i.counted in
    let outputs = ap (λ (x : Counted). x.outputs) same in
    record {
      state = more_state s None c.loop-n.n (state_of c.loop-n.machine) next c.step-word.result i.state c.step-word.ensures;
      counted = same;
      few = omega (arith, outputs, few s (c.loop-n.n + 1));
    }
