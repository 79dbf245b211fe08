use Rattle.lower_checked.proofs.CheckedRoomBodies.{has_one_each}
use Rattle.lower_checked.proofs.room.one_each.Goals as goal

pub returns : goal.returns
returns c = has_one_each
