use Rattle.std.proofs.Common.{◌≡◌}
use Rattle.signature_assign.specs.Edges.{AreMarked}
use Rattle.signature_assign.proofs.numbers.marks_of.Given as goal

abbrev pub invariant-loop-u : goal.invariant-loop-u
invariant-loop-u l = AreMarked l.known.successors.items l.u l.marks.items
