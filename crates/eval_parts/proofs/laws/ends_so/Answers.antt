use Rattle.eval_parts.proofs.Output.{ends_so}
use Rattle.eval_parts.proofs.laws.ends_so.Goals as goal

pub returns : goal.returns
returns c = ends_so
