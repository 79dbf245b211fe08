use Rattle.compile_chain.proofs.Joined.{is_hardened}
use Rattle.compile_chain.proofs.lowered_image.lowered_is_hardened.Goals as goal

pub returns : goal.returns
returns c program r mid image s e g k = is_hardened c.lowered_runs.ensures program r mid image s e g k
