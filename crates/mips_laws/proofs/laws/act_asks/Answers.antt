use Rattle.mips_laws.proofs.Locality.{asks}
use Rattle.mips_laws.proofs.laws.act_asks.Goals as goal

pub returns : goal.returns
returns c = asks
