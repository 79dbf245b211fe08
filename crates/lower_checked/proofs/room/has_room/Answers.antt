use Rattle.lower_checked.proofs.Rooms.{has_room}
use Rattle.lower_checked.proofs.room.has_room.Goals as goal

pub returns : goal.returns
returns c = has_room
