use Rattle.lint_theorem.proofs.Heads.{starts_inside}
use Rattle.lint_theorem.proofs.harden_divert.starts_inside.Goals as goal

pub returns : goal.returns
returns c = starts_inside
