use Rattle.double_law.proofs.Wells.{twin}
use Rattle.double_law.proofs.double_forms.doubled_twin.Goals as goal

pub returns : goal.returns
returns g mid places p d w = twin mid places p d w
