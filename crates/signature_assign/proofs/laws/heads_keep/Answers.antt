use Rattle.signature_assign.proofs.HeadsKept as HeadsKept
use Rattle.signature_assign.proofs.laws.heads_keep.Goals as goal

pub returns : goal.returns
returns c = HeadsKept.heads_keep
