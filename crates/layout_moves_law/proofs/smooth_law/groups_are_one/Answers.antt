use Rattle.layout_moves_law.proofs.SmoothLawSmooth.{groups_are_one}
use Rattle.layout_moves_law.proofs.smooth_law.groups_are_one.Goals as goal

pub returns : goal.returns
returns c = groups_are_one
