use Rattle.std.proofs.Common.{length, rules}
use Rattle.hard_code.specs.Tested.{may_begin}
use Rattle.hard_code.proofs.Windows.{window_more}
use Rattle.hard_code.proofs.entering.called_by.Goals as goal

pub loop-low-preserved : goal.loop-low-preserved
loop-low-preserved c = record {
  room = search rules;
  holds = window_more (λ x. may_begin c.args.blocks.now c.args.entries.now x) c.loop-low.low (length c.raise_called.new.marks) (length c.args.entries.now) c.loop-low.invariant.holds (c.window_called.ensures.0 (search rules));
}
