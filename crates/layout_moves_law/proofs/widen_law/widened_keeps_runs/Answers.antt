use Rattle.layout_moves_law.proofs.WidenLawRuns.{keeps_runs}
use Rattle.layout_moves_law.proofs.widen_law.widened_keeps_runs.Goals as goal

pub returns : goal.returns
returns c = keeps_runs
