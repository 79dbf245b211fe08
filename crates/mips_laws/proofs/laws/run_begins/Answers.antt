use Rattle.mips_laws.proofs.Runs.{front}
use Rattle.mips_laws.proofs.laws.run_begins.Goals as goal

pub returns : goal.returns
returns c = front
