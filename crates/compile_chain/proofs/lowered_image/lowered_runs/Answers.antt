use Rattle.compile_chain.proofs.Joined.{lowered_runs as law}
use Rattle.compile_chain.proofs.lowered_image.lowered_runs.Goals as goal

pub returns : goal.returns
returns c program r mid s e g = law c.same_run.ensures program r mid s e g
