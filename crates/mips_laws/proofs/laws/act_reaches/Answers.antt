use Rattle.mips_laws.proofs.Locality.{reaches}
use Rattle.mips_laws.proofs.laws.act_reaches.Goals as goal

pub returns : goal.returns
returns c = reaches
