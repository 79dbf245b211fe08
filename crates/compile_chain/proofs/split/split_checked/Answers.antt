use Rattle.compile_chain.proofs.Results.{if_ok}
use Rattle.compile_chain.proofs.Sources.{ready}
use Rattle.compile_chain.proofs.split.split_checked.Goals as goal

pub compile_blocks_split-requires : goal.compile_blocks_split-requires
compile_blocks_split-requires c = ready c.args.checked.now c.in_ok-mid.mid c.lowered_is_small.ensures c.requires.checked c.in_ok-mid.ensures.lowered

pub returns : goal.returns
returns c = if_ok c.compile_blocks_split.result _ _ (λ image of. record { mid = c.in_ok-mid.mid; lowered = c.in_ok-mid.ensures.lowered; leaf = c.in_ok-mid.ensures.leaf; image = of }) c.compile_blocks_split.ensures
