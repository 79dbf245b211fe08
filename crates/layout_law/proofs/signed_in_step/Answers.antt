use Rattle.layout_law.proofs.Signed as proof
use Rattle.layout_law.proofs.signed_in_step.Goals as goal

pub returns : goal.returns
returns c = proof.signed_in_step
