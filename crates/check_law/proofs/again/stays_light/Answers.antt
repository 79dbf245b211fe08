use Rattle.check_law.proofs.LeafAgain.{light_again}
use Rattle.check_law.proofs.again.stays_light.Goals as goal

pub returns : goal.returns
returns c = light_again
