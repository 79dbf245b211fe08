use Rattle.register_halves.proofs.Enough as Enough
use Rattle.register_halves.proofs.laws.few_variables.Goals as goal

pub returns : goal.returns
returns c = Enough.few_variables
