use Rattle.mips_laws.proofs.Runs.{before}
use Rattle.mips_laws.proofs.laws.same_before.Goals as goal

pub returns : goal.returns
returns c = before
