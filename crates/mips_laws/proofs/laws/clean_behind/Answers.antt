use Rattle.mips_laws.proofs.Runs.{behind}
use Rattle.mips_laws.proofs.laws.clean_behind.Goals as goal

pub returns : goal.returns
returns c = behind
