use Rattle.check_law.proofs.ProgramAgain.{nodes_kept}
use Rattle.check_law.proofs.again.nodes_stay.Goals as goal

pub returns : goal.returns
returns c = nodes_kept
