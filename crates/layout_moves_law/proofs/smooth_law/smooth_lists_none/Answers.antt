use Rattle.layout_moves_law.proofs.SmoothLawSmooth.{smooth_lists_none}
use Rattle.layout_moves_law.proofs.smooth_law.smooth_lists_none.Goals as goal

pub returns : goal.returns
returns c = smooth_lists_none
