use Rattle.std.proofs.Common.{take}
use Rattle.std.specs.List.{list_any}
use Rattle.mid_blocks.specs.Tested.{calls, AreRaised}
use Rattle.mid_code.proofs.marks.raise_called.Given as goal

abbrev pub invariant-loop-function : goal.invariant-loop-function
invariant-loop-function l = AreRaised (λ x. list_any (λ y. calls y.blocks x) (take l.function-index l.functions)) l.low l.initial.marks l.marks
