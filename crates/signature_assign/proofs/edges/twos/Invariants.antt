use Rattle.std.proofs.Common.{◌≡◌, take}
use Rattle.signature_assign.specs.Edges.{twos}
use Rattle.signature_assign.proofs.edges.twos.Given as goal

abbrev pub invariant-loop-before : goal.invariant-loop-before
invariant-loop-before l = l.two.items ≡ twos (take l.before-index l.predecessors)
