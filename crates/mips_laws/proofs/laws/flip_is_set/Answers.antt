use Rattle.mips_laws.proofs.Runs.{flip_is_set}
use Rattle.mips_laws.proofs.laws.flip_is_set.Goals as goal

pub returns : goal.returns
returns c = flip_is_set
