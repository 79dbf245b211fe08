use Rattle.mips_laws.proofs.Runs.{grows}
use Rattle.mips_laws.proofs.laws.output_grows.Goals as goal

pub returns : goal.returns
returns c = grows
