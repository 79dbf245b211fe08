use Rattle.std.proofs.Common.{length}
use Rattle.mid_blocks.specs.Tested.{is_entered, HoldsWithin}
use Rattle.mid_code.proofs.entries.window_fits.Given as goal

abbrev pub invariant-loop-at : goal.invariant-loop-at
invariant-loop-at l = HoldsWithin (λ x. is_entered l.blocks x) l.low l.at (length l.blocks)
