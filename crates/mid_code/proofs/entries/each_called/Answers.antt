use Rattle.std.proofs.Common.{length, rules}
use Rattle.mid_blocks.specs.Tested.{may_stay}
use Rattle.mid_code.proofs.Windows.{window_more}
use Rattle.mid_code.proofs.entries.each_called.Goals as goal

pub loop-low-preserved : goal.loop-low-preserved
loop-low-preserved c = record {
  room = search rules;
  holds = window_more (λ x. may_stay c.args.functions.now x) c.loop-low.low (length c.raise_called.new.marks) (length c.args.functions.now) c.loop-low.invariant.holds (c.window_called.ensures.0 (search rules));
}
