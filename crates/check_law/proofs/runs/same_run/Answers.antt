use Rattle.check_law.proofs.ProgramRuns.{same_run}
use Rattle.check_law.proofs.runs.same_run.Goals as goal

pub returns : goal.returns
returns c = same_run
