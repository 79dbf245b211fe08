use Rattle.std.proofs.Common.{◌-◌}
use Rattle.mips_machine.specs.View.{state_of}
use Rattle.fault_campaign.proofs.Steps.{keeps_thrice}
use Rattle.fault_campaign.proofs.runs.run_clean.Goals as goal

pub returns-clause-text : goal.returns-clause-text
returns-clause-text c =
    keeps_thrice (state_of c.args.machine.now) (state_of c.go_on.new.machine) (state_of c.run_noted.new.machine) (state_of c.go_on-2.new.machine)
    c.args.from (c.args.to - c.args.from) (c.args.steps - c.args.to) c.in_ok-go_on.ensures.state c.in_ok-addresses.ensures.state c.in_ok-go_on-2.ensures.state
