use Rattle.std.proofs.Common.{◌≡◌, ◌≤◌, ◌++◌, ℕ, None, arith, ap, sym, ◌∙◌}
use Rattle.mips_isa.specs.Machine.{State}
use Rattle.mips_isa.specs.Runs.{Ran, run}
use Rattle.mips_machine.specs.View.{state_of}
use Rattle.fault_campaign.proofs.Steps.{ended_early, more_output, more_state}
use Rattle.fault_campaign.proofs.runs.go_on.Goals as goal

pub returns-then-is_some-clause-state : goal.returns-then-is_some-clause-state
returns-then-is_some-clause-state c =
    let s : State = state_of c.args.machine.now in
    let le : c.loop-n.n ≤ c.args.steps = omega arith in
    let whole : run s None c.args.steps ≡ run s None c.loop-n.n =
    ended_early c.end_stays.ensures s (state_of c.loop-n.machine) c.loop-n.n c.args.steps _ le c.loop-n.invariant.state c.is_some.ensures c.if-is_some.true in
    c.loop-n.invariant.state ∙ ap (λ (r : Ran). r.state) (sym whole)

pub returns-then-is_some-clause-output : goal.returns-then-is_some-clause-output
returns-then-is_some-clause-output c =
    let s : State = state_of c.args.machine.now in
    let le : c.loop-n.n ≤ c.args.steps = omega arith in
    let whole : run s None c.args.steps ≡ run s None c.loop-n.n =
    ended_early c.end_stays.ensures s (state_of c.loop-n.machine) c.loop-n.n c.args.steps _ le c.loop-n.invariant.state c.is_some.ensures c.if-is_some.true in
    c.loop-n.invariant.output ∙ ap (λ (r : Ran). c.args.out.now.items ++ r.output) (sym whole)

pub loop-n-preserved : goal.loop-n-preserved
loop-n-preserved c =
    let s : State = state_of c.args.machine.now in
    let m : State = state_of c.loop-n.machine in
    record {
      state = c.in_ok-step_into.ensures.state ∙ more_state s m c.loop-n.n c.loop-n.invariant.state;
      output = c.in_ok-step_into.ensures.output ∙ more_output s m c.loop-n.n c.args.out.now.items c.loop-n.out.items c.loop-n.invariant.state c.loop-n.invariant.output;
    }
