use Rattle.harden_lint.proofs.Insides.{windows_inside}
use Rattle.harden_lint.proofs.laws.windows_inside.Goals as goal

pub returns : goal.returns
returns c = windows_inside
