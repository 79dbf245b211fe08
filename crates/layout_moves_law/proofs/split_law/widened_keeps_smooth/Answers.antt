use Rattle.layout_moves_law.proofs.Widened.{widened_keeps_smooth}
use Rattle.layout_moves_law.proofs.split_law.widened_keeps_smooth.Goals as goal

pub returns : goal.returns
returns c = widened_keeps_smooth
