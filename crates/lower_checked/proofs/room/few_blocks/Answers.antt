use Rattle.lower_checked.proofs.Limits.{has_few_blocks}
use Rattle.lower_checked.proofs.room.few_blocks.Goals as goal

pub returns : goal.returns
returns c = has_few_blocks
