use Rattle.std.proofs.Common.{◌<◌, ◌≤◌, arith}
use Rattle.mips_machine.specs.View.{state_of}
use Rattle.fault_campaign.specs.Runs.{image_of}
use Rattle.fault_campaign.proofs.Steps.{keeps_on}
use Rattle.fault_campaign.proofs.Trying.{has_room, one_more}
use Rattle.fault_campaign.proofs.flips.try_step.Goals as goal

pub count-requires : goal.count-requires
count-requires c =
    let few : c.args.n < 10000000 = omega (arith, c.requires.to, c.requires.ready.within, c.requires.ready.few) in
    let some : c.loop-before.before ≤ 31 = omega arith in
    has_room c.loop-before.invariant.counts few some

pub loop-before-preserved : goal.loop-before-preserved
loop-before-preserved c =
    let less : c.loop-before.before < 31 = omega arith in
    record {
      text = keeps_on (state_of c.args.machine.now) (state_of c.loop-before.machine) (state_of c.try_flip.new.machine) c.loop-before.invariant.text c.in_ok-outcome.ensures.text;
      counts = one_more (image_of c.args.trial.now) c.args.machine.now.feed c.loop-before.machine.feed c.args.trial.now.steps c.args.trial.now.from c.args.n c.loop-before.before c.loop-before.tally c.count.new.self c.in_ok-outcome.outcome
          less c.loop-before.invariant.counts c.loop-before.invariant.text.feed c.in_ok-outcome.ensures.outcome c.count.ensures;
    }
