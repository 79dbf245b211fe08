use Rattle.mips_laws.proofs.Runs.{stays}
use Rattle.mips_laws.proofs.laws.end_stays.Goals as goal

pub returns : goal.returns
returns c = stays
