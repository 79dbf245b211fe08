use Rattle.run_audit.proofs.Answers.{never_both}
use Rattle.run_audit.proofs.laws.never_both.Goals as goal

pub returns : goal.returns
returns c = never_both
