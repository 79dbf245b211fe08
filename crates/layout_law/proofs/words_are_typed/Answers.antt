use Rattle.layout_law.proofs.Typed as proof
use Rattle.layout_law.proofs.words_are_typed.Goals as goal

pub returns : goal.returns
returns c = proof.words_are_typed
