use Rattle.std.proofs.Common.{sym, subst}
use Rattle.mips_machine.specs.View.{state_of}
use Rattle.fault_campaign.specs.Campaign.{Counts, none}
use Rattle.fault_campaign.specs.Runs.{image_of}
use Rattle.fault_campaign.proofs.Steps.{keeps_on, same_text}
use Rattle.fault_campaign.proofs.Trying.{step_more}
use Rattle.fault_campaign.proofs.flips.try_all.Goals as goal

pub loop-n-init : goal.loop-n-init
loop-n-init c = record {
  text = same_text (state_of c.args.machine.now);
  counts = subst (Counts (image_of c.args.trial.now) c.args.machine.now.feed c.args.trial.now.steps c.args.trial.now.from c.args.trial.now.from 0) (sym c.no_flips-tally.ensures) none;
}

pub loop-n-preserved : goal.loop-n-preserved
loop-n-preserved c = record {
  text = keeps_on (state_of c.args.machine.now) (state_of c.loop-n.machine) (state_of c.try_step.new.machine) c.loop-n.invariant.text c.in_ok-try_step.ensures.text;
  counts = step_more (image_of c.args.trial.now) c.args.machine.now.feed c.loop-n.machine.feed c.args.trial.now.steps c.args.trial.now.from c.loop-n.n c.try_step.new.tally c.loop-n.invariant.text.feed c.in_ok-try_step.ensures.counts;
}
