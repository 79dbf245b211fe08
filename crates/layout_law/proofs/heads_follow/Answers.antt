use Rattle.layout_law.proofs.Signed as proof
use Rattle.layout_law.proofs.heads_follow.Goals as goal

pub returns : goal.returns
returns c = proof.heads_follow
