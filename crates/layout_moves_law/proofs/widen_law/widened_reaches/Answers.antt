use Rattle.layout_moves_law.proofs.Lays.{widened_reaches}
use Rattle.layout_moves_law.proofs.widen_law.widened_reaches.Goals as goal

pub returns : goal.returns
returns c = widened_reaches
