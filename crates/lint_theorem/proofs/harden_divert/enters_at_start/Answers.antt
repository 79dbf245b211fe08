use Rattle.lint_theorem.proofs.Clean.{enters_at_start}
use Rattle.lint_theorem.proofs.harden_divert.enters_at_start.Goals as goal

pub returns : goal.returns
returns c = enters_at_start
