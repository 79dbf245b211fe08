use Rattle.lower_law.proofs.Final.{shallow}
use Rattle.lower_law.proofs.laws.stays_shallow.Goals as goal

pub returns : goal.returns
returns c = shallow
