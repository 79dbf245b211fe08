use Rattle.std.proofs.Common.{take}
use Rattle.std.specs.List.{list_any}
use Rattle.hard_code.specs.Tested.{is_it, callee, leave, AreRaised}
use Rattle.hard_code.proofs.marks.raise_called.Given as goal

abbrev pub invariant-loop-block : goal.invariant-loop-block
invariant-loop-block l = AreRaised (λ x. list_any (λ b. is_it (callee (leave b.items)) x) (take l.block-index l.blocks)) l.low l.initial.marks l.marks
