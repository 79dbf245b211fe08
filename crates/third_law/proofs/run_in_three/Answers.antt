use Rattle.third_law.proofs.Whole.{run_in_three}
use Rattle.third_law.proofs.run_in_three.Goals as goal

pub returns : goal.returns
returns c = run_in_three c.decodes_encoded.ensures
