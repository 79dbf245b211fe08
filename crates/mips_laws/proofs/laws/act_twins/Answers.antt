use Rattle.mips_laws.proofs.Locality.{twins}
use Rattle.mips_laws.proofs.laws.act_twins.Goals as goal

pub returns : goal.returns
returns c = twins
