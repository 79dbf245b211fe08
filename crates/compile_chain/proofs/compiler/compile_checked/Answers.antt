use Rattle.compile_chain.proofs.Results.{if_ok}
use Rattle.compile_chain.proofs.Sources.{ready}
use Rattle.compile_chain.proofs.compiler.compile_checked.Goals as goal

pub compile_blocks-requires : goal.compile_blocks-requires
compile_blocks-requires c = ready c.args.checked.now c.in_ok-mid.mid c.lowered_is_small.ensures c.requires.checked c.in_ok-mid.ensures.lowered

pub returns : goal.returns
returns c = if_ok c.compile_blocks.result _ _ (λ image of. record { mid = c.in_ok-mid.mid; lowered = c.in_ok-mid.ensures.lowered; leaf = c.in_ok-mid.ensures.leaf; image = of }) c.compile_blocks.ensures
