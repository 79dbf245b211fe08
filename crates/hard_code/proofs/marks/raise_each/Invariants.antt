use Rattle.std.proofs.Common.{take}
use Rattle.std.specs.Prelude.{◌==◌}
use Rattle.std.specs.List.{list_any}
use Rattle.hard_code.specs.Tested.{AreRaised}
use Rattle.hard_code.proofs.marks.raise_each.Given as goal

abbrev pub invariant-loop-number : goal.invariant-loop-number
invariant-loop-number l = AreRaised (λ x. list_any (λ y. y == x) (take l.number-index l.numbers)) l.low l.initial.marks l.marks
