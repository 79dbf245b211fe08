use Rattle.hard_runs.proofs.Observed.{same_reflexive}
use Rattle.hard_runs.proofs.same.same_reflexive.Goals as goal

pub returns : goal.returns
returns g c = same_reflexive _
