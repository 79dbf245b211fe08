use Rattle.std.proofs.Common.{length, rules}
use Rattle.hard_code.specs.Tested.{is_entered}
use Rattle.hard_code.proofs.Windows.{window_more}
use Rattle.hard_code.proofs.entering.entered_by.Goals as goal

pub loop-low-preserved : goal.loop-low-preserved
loop-low-preserved c = record {
  room = search rules;
  holds = window_more (λ x. is_entered c.args.blocks.now x) c.loop-low.low (length c.raise_named.new.marks) (length c.args.blocks.now) c.loop-low.invariant.holds (c.window_entered.ensures.0 (search rules));
}
