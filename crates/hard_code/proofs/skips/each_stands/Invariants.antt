use Rattle.std.proofs.Common.{◌≡◌, ℕ, ◌<◌, true}
use Rattle.hard_code.specs.Tested.{place_fits}
use Rattle.hard_code.proofs.skips.each_stands.Given as goal

abbrev pub invariant-loop-place : goal.invariant-loop-place
invariant-loop-place l = (k : ℕ) → k < l.place → place_fits l.items k ≡ true
