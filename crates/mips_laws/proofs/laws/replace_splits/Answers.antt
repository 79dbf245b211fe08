use Rattle.mips_laws.proofs.Runs.{replace_splits}
use Rattle.mips_laws.proofs.laws.replace_splits.Goals as goal

pub returns : goal.returns
returns c = replace_splits
