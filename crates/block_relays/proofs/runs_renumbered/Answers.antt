use Rattle.block_relays.proofs.Renumbering as proof
use Rattle.block_relays.proofs.runs_renumbered.Goals as goal

pub returns : goal.returns
returns c = proof.runs_renumbered
