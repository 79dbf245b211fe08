use Rattle.lower_law.proofs.Final.{proper}
use Rattle.lower_law.proofs.laws.stays_proper.Goals as goal

pub returns : goal.returns
returns c = proper
