use Rattle.std.proofs.Common.{◌≡◌}
use Rattle.mips_machine.specs.View.{state_of}
use Rattle.fault_campaign.specs.Campaign.{Counts}
use Rattle.fault_campaign.specs.Runs.{KeepsText, image_of}
use Rattle.fault_campaign.proofs.flips.try_step.Given as goal

abbrev pub invariant-loop-before : goal.invariant-loop-before
invariant-loop-before l = record {
  text : KeepsText (state_of l.fn.machine) (state_of l.machine);
  counts : Counts (image_of l.trial) l.fn.machine.feed l.trial.steps l.trial.from l.n l.before l.tally;
}
