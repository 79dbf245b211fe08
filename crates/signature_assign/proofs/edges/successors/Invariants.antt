use Rattle.std.proofs.Common.{◌≡◌, take, map}
use Rattle.hard_items.specs.declared.code.HardBlock.{HardBlock}
use Rattle.signature_assign.proofs.edges.successors.Given as goal

abbrev pub invariant-loop-block : goal.invariant-loop-block
invariant-loop-block l = l.lists.items ≡ map (λ (b : HardBlock). b.successors) (take l.block-index l.blocks)
