use Rattle.hard_runs.proofs.Observed.{same_transitive}
use Rattle.hard_runs.proofs.same.same_transitive.Goals as goal

pub returns : goal.returns
returns g c = same_transitive _
