use Rattle.std.proofs.Common.{◌≡◌, ℕ, drop, get_or}
use Rattle.std.specs.Prelude.{if◌then◌else◌}
use Rattle.alias_lister.specs.Listing.{has}
use Rattle.alias_lister.proofs.listing.stamp.Given as goal

abbrev pub invariant-loop-w : goal.invariant-loop-w
invariant-loop-w l = (w : ℕ) → (if has w (drop l.w-index l.next) then l.with else get_or l.stamps w 0) ≡ (if has w l.next then l.with else get_or l.initial.stamps w 0)
