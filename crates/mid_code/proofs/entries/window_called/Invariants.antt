use Rattle.std.proofs.Common.{length}
use Rattle.mid_blocks.specs.Tested.{may_stay, HoldsWithin}
use Rattle.mid_code.proofs.entries.window_called.Given as goal

abbrev pub invariant-loop-at : goal.invariant-loop-at
invariant-loop-at l = HoldsWithin (λ x. may_stay l.functions x) l.low l.at (length l.functions)
