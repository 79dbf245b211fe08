use Rattle.mips_laws.proofs.Runs.{joins}
use Rattle.mips_laws.proofs.laws.run_joins.Goals as goal

pub returns : goal.returns
returns c = joins
