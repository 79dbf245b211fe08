use Rattle.lint_theorem.proofs.Clean.{keeps_numbers}
use Rattle.lint_theorem.proofs.harden_divert.keeps_numbers.Goals as goal

pub returns : goal.returns
returns c = keeps_numbers
