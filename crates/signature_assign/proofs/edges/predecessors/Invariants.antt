use Rattle.std.proofs.Common.{◌≡◌, length, drop}
use Rattle.signature_assign.specs.Edges.{turned, backward}
use Rattle.signature_assign.proofs.edges.predecessors.Given as goal

abbrev pub invariant-loop-next : goal.invariant-loop-next
invariant-loop-next l = record {
  at : l.block ≡ l.next-index;
  long : length l.lists.items ≡ length l.successors;
  turns : turned l.block (drop l.next-index l.successors) l.lists.items ≡ backward l.successors;
}
