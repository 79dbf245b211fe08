use Rattle.layout_law.proofs.Laying as proof
use Rattle.layout_law.proofs.can_be_laid.Goals as goal

pub returns : goal.returns
returns c = proof.can_be_laid
