use Rattle.lint_theorem.proofs.Heads.{spans_apart}
use Rattle.lint_theorem.proofs.harden_divert.spans_apart.Goals as goal

pub returns : goal.returns
returns c = spans_apart
