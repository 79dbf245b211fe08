use Rattle.std.proofs.Common.{take}
use Rattle.std.specs.Prelude.{◌==◌}
use Rattle.std.specs.List.{list_any}
use Rattle.hard_code.specs.Tested.{AreRaised}
use Rattle.hard_code.proofs.marks.raise_named.Given as goal

abbrev pub invariant-loop-block : goal.invariant-loop-block
invariant-loop-block l = AreRaised (λ x. list_any (λ b. list_any (λ y. y == x) b.successors) (take l.block-index l.blocks)) l.low l.initial.marks l.marks
