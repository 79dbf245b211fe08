use Rattle.mips_laws.proofs.Beside.{act_beside}
use Rattle.mips_laws.proofs.laws.act_beside.Goals as goal

pub returns : goal.returns
returns c = act_beside
