use Rattle.std.proofs.Common.{◌≡◌, ℕ, ◌<◌, ◌-◌, true, length}
use Rattle.mid_blocks.specs.Tested.{is_entered}
use Rattle.mid_code.proofs.entries.entries_fit.Given as goal

abbrev pub decreases-loop-low : goal.decreases-loop-low
decreases-loop-low l = length l.blocks - l.low

abbrev pub invariant-loop-low : goal.invariant-loop-low
invariant-loop-low l = record { room : length l.marks ≡ length l.initial.marks; holds : (x : ℕ) → x < l.low → x < length l.blocks → is_entered l.blocks x ≡ true }
