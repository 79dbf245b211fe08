use Rattle.std.proofs.Common.{◌≡◌, ℕ, ◌<◌, ◌-◌, true, length}
use Rattle.mid_blocks.specs.Tested.{may_stay}
use Rattle.mid_code.proofs.entries.each_called.Given as goal

abbrev pub decreases-loop-low : goal.decreases-loop-low
decreases-loop-low l = length l.functions - l.low

abbrev pub invariant-loop-low : goal.invariant-loop-low
invariant-loop-low l = record { room : length l.marks ≡ length l.initial.marks; holds : (x : ℕ) → x < l.low → x < length l.functions → may_stay l.functions x ≡ true }
