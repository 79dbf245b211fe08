use Rattle.layout_moves_law.proofs.Lays.{can_be_laid}
use Rattle.layout_moves_law.proofs.widen_law.widened_can_be_laid.Goals as goal

pub returns : goal.returns
returns c = can_be_laid
