use Rattle.check_law.proofs.ProgramAgain.{again_checked}
use Rattle.check_law.proofs.again.checked_again.Goals as goal

pub returns : goal.returns
returns c = again_checked
