use Rattle.layout_moves_law.proofs.Edges.{smooth_by_graph}
use Rattle.layout_moves_law.proofs.smooth_law.smooth_by_graph.Goals as goal

pub returns : goal.returns
returns c = smooth_by_graph
