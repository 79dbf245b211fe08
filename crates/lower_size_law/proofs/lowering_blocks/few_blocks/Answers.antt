use Rattle.lower_size_law.proofs.Cost.{few_blocks}
use Rattle.lower_size_law.proofs.lowering_blocks.few_blocks.Goals as goal

pub returns : goal.returns
returns c = few_blocks
