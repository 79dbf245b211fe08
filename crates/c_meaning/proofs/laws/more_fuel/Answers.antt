use Rattle.c_meaning.proofs.More.{more_fuel}
use Rattle.c_meaning.proofs.laws.more_fuel.Goals as goal

pub returns : goal.returns
returns c = more_fuel
