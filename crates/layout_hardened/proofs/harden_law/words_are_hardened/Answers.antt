use Rattle.layout_hardened.proofs.Whole as proof
use Rattle.layout_hardened.proofs.harden_law.words_are_hardened.Goals as goal

pub returns : goal.returns
returns c = proof.words_are_hardened
