use Rattle.hard_laws.proofs.Keeping.{well_formed_stays as law}
use Rattle.hard_laws.proofs.well_formed_stays.Goals as goal

pub returns : goal.returns
returns g c = law c
