use Rattle.mips_laws.proofs.Runs.{divert_splits}
use Rattle.mips_laws.proofs.laws.divert_splits.Goals as goal

pub returns : goal.returns
returns c = divert_splits
