use Rattle.lower_checked.proofs.CheckedRoomInside.{leads_inside}
use Rattle.lower_checked.proofs.leading.leads_inside.Goals as goal

pub returns : goal.returns
returns c = leads_inside
