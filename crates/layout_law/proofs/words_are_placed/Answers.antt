use Rattle.layout_law.proofs.Signed as proof
use Rattle.layout_law.proofs.words_are_placed.Goals as goal

pub returns : goal.returns
returns c = proof.signed_placed
