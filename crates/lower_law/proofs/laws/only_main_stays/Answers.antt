use Rattle.lower_law.proofs.Final.{alone}
use Rattle.lower_law.proofs.laws.only_main_stays.Goals as goal

pub returns : goal.returns
returns c = alone
