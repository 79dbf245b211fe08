use Rattle.compile_chain.proofs.Compiled.{can_become}
use Rattle.compile_chain.proofs.compile_law.can_be_hardened.Goals as goal

pub returns : goal.returns
returns g c mid p k l f = can_become c mid p k l f
