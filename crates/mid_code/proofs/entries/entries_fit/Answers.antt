use Rattle.std.proofs.Common.{length, rules}
use Rattle.mid_blocks.specs.Tested.{is_entered}
use Rattle.mid_code.proofs.Windows.{window_more}
use Rattle.mid_code.proofs.entries.entries_fit.Goals as goal

pub loop-low-preserved : goal.loop-low-preserved
loop-low-preserved c = record {
  room = search rules;
  holds = window_more (λ x. is_entered c.args.blocks.now x) c.loop-low.low (length c.raise_named.new.marks) (length c.args.blocks.now) c.loop-low.invariant.holds (c.window_fits.ensures.0 (search rules));
}
