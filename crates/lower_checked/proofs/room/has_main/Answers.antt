use Rattle.lower_checked.proofs.Limits.{has_main}
use Rattle.lower_checked.proofs.room.has_main.Goals as goal

pub returns : goal.returns
returns c = has_main
