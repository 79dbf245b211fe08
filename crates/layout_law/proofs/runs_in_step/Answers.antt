use Rattle.layout_law.proofs.Whole as proof
use Rattle.layout_law.proofs.runs_in_step.Goals as goal

pub returns : goal.returns
returns c = proof.runs_in_step
