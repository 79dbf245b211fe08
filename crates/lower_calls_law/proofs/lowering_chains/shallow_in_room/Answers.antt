use Rattle.lower_calls_law.proofs.Chains.{in_room}
use Rattle.lower_calls_law.proofs.lowering_chains.shallow_in_room.Goals as goal

pub returns : goal.returns
returns c = in_room
