use Rattle.compile_chain.proofs.Joined.{is_small}
use Rattle.compile_chain.proofs.lowered_image.lowered_is_small.Goals as goal

pub returns : goal.returns
returns g c mid k l = is_small c mid k l
