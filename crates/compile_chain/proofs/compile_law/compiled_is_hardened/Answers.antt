use Rattle.compile_chain.proofs.Compiled.{is_hardened}
use Rattle.compile_chain.proofs.compile_law.compiled_is_hardened.Goals as goal

pub returns : goal.returns
returns c program r mid p image g = is_hardened c.same_run.ensures program r mid p image g
