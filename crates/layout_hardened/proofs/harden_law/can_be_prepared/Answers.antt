use Rattle.layout_hardened.proofs.Prepared as proof
use Rattle.layout_hardened.proofs.harden_law.can_be_prepared.Goals as goal

pub returns : goal.returns
returns c = proof.can_be_prepared
