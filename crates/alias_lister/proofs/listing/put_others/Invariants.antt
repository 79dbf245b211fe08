use Rattle.std.proofs.Common.{◌≡◌, drop, get_or, ◌++◌}
use Rattle.std.specs.Prelude.{◌==◌}
use Rattle.alias_lister.specs.Listing.{paired}
use Rattle.alias_lister.proofs.listing.put_others.Given as goal

abbrev pub invariant-loop-w : goal.invariant-loop-w
invariant-loop-w l = l.out.items ++ paired l.block (λ w. get_or l.stamps w 0 == l.with) (drop l.w-index l.group) ≡ l.initial.out.items ++ paired l.block (λ w. get_or l.stamps w 0 == l.with) l.group
