use Rattle.mips_laws.proofs.Locality.{puts}
use Rattle.mips_laws.proofs.laws.act_puts.Goals as goal

pub returns : goal.returns
returns c = puts
