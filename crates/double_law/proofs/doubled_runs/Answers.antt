use Rattle.double_law.proofs.Law.{doubled_runs as law}
use Rattle.double_law.proofs.doubled_runs.Goals as goal

pub returns : goal.returns
returns g c = law c
