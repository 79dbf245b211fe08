use Rattle.mips_laws.proofs.Locality.{going_jumps}
use Rattle.mips_laws.proofs.laws.going_jumps.Goals as goal

pub returns : goal.returns
returns c = going_jumps
