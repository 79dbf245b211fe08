use Rattle.lower_checked.proofs.Limits.{has_light_frames}
use Rattle.lower_checked.proofs.room.light_frames.Goals as goal

pub returns : goal.returns
returns c = has_light_frames
