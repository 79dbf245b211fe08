use Rattle.layout_law.proofs.Signed as proof
use Rattle.layout_law.proofs.signed_words_same.Goals as goal

pub returns : goal.returns
returns c = proof.signed_same
