use Rattle.std.proofs.Common.{◌≡◌, ◌+◌, ◌%◌, arith}
use Rattle.mips_machine.specs.View.{state_of}
use Rattle.fault_campaign.proofs.Steps.{flip_output, flip_end, flip_text}
use Rattle.fault_campaign.proofs.runs.run_flipped.Goals as goal

pub returns-clause-output : goal.returns-clause-output
returns-clause-output c =
    flip_output c.replace_splits.ensures (state_of c.args.machine.now) (state_of c.go_on.new.machine) (state_of c.apply.new.self) (state_of c.go_on-2.new.machine) c.args.n c.args.reg _ c.args.steps
    c.requires.step (omega arith) c.in_ok-go_on.ensures.state c.apply.ensures c.in_ok-go_on-2.ensures.state
    c.clear.new.self.items c.go_on.new.out.items c.go_on-2.new.out.items c.clear.ensures.items c.in_ok-go_on.ensures.output c.in_ok-go_on-2.ensures.output

pub returns-clause-end : goal.returns-clause-end
returns-clause-end c =
    flip_end c.replace_splits.ensures (state_of c.args.machine.now) (state_of c.go_on.new.machine) (state_of c.apply.new.self) (state_of c.go_on-2.new.machine) c.args.n c.args.reg _ c.args.steps
    c.requires.step (omega arith) c.in_ok-go_on.ensures.state c.apply.ensures c.in_ok-go_on-2.ensures.state

pub returns-clause-text : goal.returns-clause-text
returns-clause-text c =
    flip_text c.replace_splits.ensures (state_of c.args.machine.now) (state_of c.go_on.new.machine) (state_of c.apply.new.self) (state_of c.go_on-2.new.machine) c.args.n c.args.reg _ c.args.steps
    c.requires.step (omega arith) c.in_ok-go_on.ensures.state c.apply.ensures c.in_ok-go_on-2.ensures.state
