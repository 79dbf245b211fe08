use Rattle.c_meaning.proofs.Active.{calls_return}
use Rattle.c_meaning.proofs.laws.calls_return.Goals as goal

pub returns : goal.returns
returns c = calls_return
