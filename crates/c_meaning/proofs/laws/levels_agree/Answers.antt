use Rattle.c_meaning.proofs.Levels.{levels_agree}
use Rattle.c_meaning.proofs.laws.levels_agree.Goals as goal

pub returns : goal.returns
returns c = levels_agree
