use Rattle.std.proofs.Common.{length}
use Rattle.hard_code.specs.Tested.{is_entered, HoldsWithin}
use Rattle.hard_code.proofs.entering.window_entered.Given as goal

abbrev pub invariant-loop-at : goal.invariant-loop-at
invariant-loop-at l = HoldsWithin (λ x. is_entered l.blocks x) l.low l.at (length l.blocks)
