use Rattle.lint_theorem.proofs.Led.{catches_within}
use Rattle.lint_theorem.proofs.harden_divert.catches_within.Goals as goal

pub returns : goal.returns
returns c = catches_within
