use Rattle.mips_laws.proofs.Locality.{ways}
use Rattle.mips_laws.proofs.laws.act_ways.Goals as goal

pub returns : goal.returns
returns c = ways
