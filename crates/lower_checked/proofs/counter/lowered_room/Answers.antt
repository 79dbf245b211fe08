use Rattle.lower_checked.proofs.Rooms.{lowered_room}
use Rattle.lower_checked.proofs.counter.lowered_room.Goals as goal

pub returns : goal.returns
returns c = lowered_room
