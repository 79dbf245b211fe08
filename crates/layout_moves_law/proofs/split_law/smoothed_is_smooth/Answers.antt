use Rattle.layout_moves_law.proofs.SplitLawRuns.{is_smooth}
use Rattle.layout_moves_law.proofs.split_law.smoothed_is_smooth.Goals as goal

pub returns : goal.returns
returns c = is_smooth
