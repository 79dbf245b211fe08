use Rattle.harden_lint.proofs.Verdict.{typed_or_bad}
use Rattle.harden_lint.proofs.laws.typed_or_bad.Goals as goal

pub returns : goal.returns
returns c = typed_or_bad
