use Rattle.std.proofs.Common.{◌≡◌, ℕ, ◌<◌, ◌-◌, true, length}
use Rattle.hard_code.specs.Tested.{may_begin}
use Rattle.hard_code.proofs.entering.called_by.Given as goal

abbrev pub decreases-loop-low : goal.decreases-loop-low
decreases-loop-low l = length l.entries - l.low

abbrev pub invariant-loop-low : goal.invariant-loop-low
invariant-loop-low l = record { room : length l.marks ≡ length l.initial.marks; holds : (x : ℕ) → x < l.low → x < length l.entries → may_begin l.blocks l.entries x ≡ true }
