use Rattle.lint_theorem.proofs.Heads.{heads_apart}
use Rattle.lint_theorem.proofs.harden_divert.heads_apart.Goals as goal

pub returns : goal.returns
returns c = heads_apart
