use Rattle.mips_laws.proofs.Locality.{same_act}
use Rattle.mips_laws.proofs.laws.same_act.Goals as goal

pub returns : goal.returns
returns c = same_act
