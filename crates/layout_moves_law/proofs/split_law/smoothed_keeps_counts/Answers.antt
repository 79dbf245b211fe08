use Rattle.layout_moves_law.proofs.SplitLawCounts.{keeps_counts}
use Rattle.layout_moves_law.proofs.split_law.smoothed_keeps_counts.Goals as goal

pub returns : goal.returns
returns c = keeps_counts
