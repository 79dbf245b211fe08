use Rattle.c_meaning.proofs.Output.{output_is_added}
use Rattle.c_meaning.proofs.laws.output_is_added.Goals as goal

pub returns : goal.returns
returns c = output_is_added
