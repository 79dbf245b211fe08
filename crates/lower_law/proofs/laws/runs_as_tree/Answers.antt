use Rattle.lower_law.proofs.Final.{runs}
use Rattle.lower_law.proofs.laws.runs_as_tree.Goals as goal

pub returns : goal.returns
returns c = runs
