use Rattle.test_passes.proofs.Orders as proof
use Rattle.test_passes.proofs.turns.take_turns.Goals as goal

pub returns : goal.returns
returns c = proof.takes_turns
