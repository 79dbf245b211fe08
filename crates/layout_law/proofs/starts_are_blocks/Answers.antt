use Rattle.layout_law.proofs.Signed as proof
use Rattle.layout_law.proofs.starts_are_blocks.Goals as goal

pub returns : goal.returns
returns c = proof.signed_starts
