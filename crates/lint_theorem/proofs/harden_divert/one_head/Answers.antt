use Rattle.lint_theorem.proofs.Heads.{one_head}
use Rattle.lint_theorem.proofs.harden_divert.one_head.Goals as goal

pub returns : goal.returns
returns c = one_head
