use Rattle.layout_moves_law.proofs.Lays.{keeps_counts}
use Rattle.layout_moves_law.proofs.widen_law.widened_keeps_counts.Goals as goal

pub returns : goal.returns
returns c = keeps_counts
