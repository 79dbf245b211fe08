use Rattle.layout_moves_law.proofs.SmoothLawSmooth.{smooth_has_no_alias}
use Rattle.layout_moves_law.proofs.smooth_law.smooth_has_no_alias.Goals as goal

pub returns : goal.returns
returns c = smooth_has_no_alias
