use Rattle.lint_lockstep.proofs.Stages.{two_runs_kept}
use Rattle.lint_lockstep.proofs.two_runs_kept.Goals as goal

pub returns : goal.returns
returns c = two_runs_kept
