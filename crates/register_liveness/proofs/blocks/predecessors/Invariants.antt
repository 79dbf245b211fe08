use Rattle.std.proofs.Common.{◌≡◌, [], replicate}
use Rattle.register_liveness.proofs.Links.{AreSoFar}
use Rattle.register_liveness.proofs.blocks.predecessors.Given as goal

abbrev pub invariant-empty : goal.invariant-empty
invariant-empty l = l.lists.items ≡ replicate l.counter []

abbrev pub invariant-loop-block : goal.invariant-loop-block
invariant-loop-block l = record {
  at : l.number ≡ l.block-index;
  lists : AreSoFar l.function l.block-index l.lists.items;
}
