use Rattle.std.proofs.Common.{◌∙◌}
use Rattle.mips_isa.specs.Machine.{State}
use Rattle.mips_machine.specs.View.{state_of}
use Rattle.fault_campaign.proofs.Steps.{more_output, more_state, noted_more}
use Rattle.fault_campaign.proofs.runs.run_noted.Goals as goal

pub loop-n-preserved : goal.loop-n-preserved
loop-n-preserved c =
    let s : State = state_of c.args.machine.now in
    let m : State = state_of c.loop-n.machine in
    record {
      state = c.in_ok-step_into.ensures.state ∙ more_state s m c.loop-n.n c.loop-n.invariant.state;
      output = c.in_ok-step_into.ensures.output ∙ more_output s m c.loop-n.n c.args.out.now.items c.loop-n.out.items c.loop-n.invariant.state c.loop-n.invariant.output;
      addresses = noted_more s m c.loop-n.n c.loop-n.addresses.items c.push.new.self.items c.loop-n.invariant.addresses c.loop-n.invariant.state c.in_ok-push.ensures.items;
    }
