use Rattle.std.proofs.Common.{◌≡◌, length, drop}
use Rattle.signature_assign.specs.Edges.{added}
use Rattle.signature_assign.proofs.edges.add_block.Given as goal

abbrev pub invariant-loop-s : goal.invariant-loop-s
invariant-loop-s l = record {
  long : length l.lists.items ≡ length l.fn.lists.items;
  adds : added l.block (drop l.s-index l.next) l.lists.items ≡ added l.block l.next l.fn.lists.items;
}
