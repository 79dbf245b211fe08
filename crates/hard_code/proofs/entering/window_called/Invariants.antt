use Rattle.std.proofs.Common.{length}
use Rattle.hard_code.specs.Tested.{may_begin, HoldsWithin}
use Rattle.hard_code.proofs.entering.window_called.Given as goal

abbrev pub invariant-loop-at : goal.invariant-loop-at
invariant-loop-at l = HoldsWithin (λ x. may_begin l.blocks l.entries x) l.low l.at (length l.entries)
