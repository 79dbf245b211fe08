use Rattle.lint_theorem.proofs.Led.{catches}
use Rattle.lint_theorem.proofs.harden_divert.catches.Goals as goal

pub returns : goal.returns
returns c = catches
