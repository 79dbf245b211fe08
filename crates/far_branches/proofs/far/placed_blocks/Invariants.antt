use Rattle.std.proofs.Common.{◌≡◌, drop, map, ◌++◌, get_or}
use Rattle.far_branches.proofs.far.placed_blocks.Given as goal

abbrev pub invariant-loop-block : goal.invariant-loop-block
invariant-loop-block l = l.placed.items ++ map (λ n. get_or l.places n 0) (drop l.block-index l.blocks) ≡ map (λ n. get_or l.places n 0) l.blocks
