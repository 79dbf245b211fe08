use Rattle.layout_moves_law.proofs.Edges.{smooth_by_ways}
use Rattle.layout_moves_law.proofs.smooth_law.smooth_by_ways.Goals as goal

pub returns : goal.returns
returns c = smooth_by_ways
