use Rattle.layout_moves_law.proofs.SplitLawRuns.{keeps_runs}
use Rattle.layout_moves_law.proofs.split_law.smoothed_keeps_runs.Goals as goal

pub returns : goal.returns
returns c = keeps_runs
