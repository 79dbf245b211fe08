use Rattle.layout_hardened.proofs.Whole as proof
use Rattle.layout_hardened.proofs.harden_law.words_run_as.Goals as goal

pub returns : goal.returns
returns c = proof.words_run_as
