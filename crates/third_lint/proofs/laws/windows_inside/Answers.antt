use Rattle.third_lint.proofs.NearTests.{windows_inside}
use Rattle.third_lint.proofs.laws.windows_inside.Goals as goal

pub returns : goal.returns
returns c = windows_inside
