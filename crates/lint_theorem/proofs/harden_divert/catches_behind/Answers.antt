use Rattle.lint_theorem.proofs.Led.{catches_behind}
use Rattle.lint_theorem.proofs.harden_divert.catches_behind.Goals as goal

pub returns : goal.returns
returns c = catches_behind
