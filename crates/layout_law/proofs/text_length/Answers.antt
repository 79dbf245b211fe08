use Rattle.layout_law.proofs.Signed as proof
use Rattle.layout_law.proofs.text_length.Goals as goal

pub returns : goal.returns
returns c = proof.text_length
