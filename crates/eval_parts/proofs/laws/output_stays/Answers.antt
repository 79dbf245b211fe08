use Rattle.eval_parts.proofs.Output.{output_stays}
use Rattle.eval_parts.proofs.laws.output_stays.Goals as goal

pub returns : goal.returns
returns c = output_stays
