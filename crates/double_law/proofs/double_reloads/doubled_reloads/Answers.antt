use Rattle.double_law.proofs.Reloads.{few_reloads}
use Rattle.double_law.proofs.double_reloads.doubled_reloads.Goals as goal

pub returns : goal.returns
returns g mid places p d s = few_reloads mid places p d s
