use Rattle.std.proofs.Common.{◌≡◌, length, drop, [], replicate}
use Rattle.alias_lister.specs.Listing.{grouped}
use Rattle.alias_lister.proofs.groups.groups.Given as goal

abbrev pub invariant-loop-mark : goal.invariant-loop-mark
invariant-loop-mark l = record {
  at : l.block ≡ l.mark-index;
  long : length l.groups.items ≡ l.count;
  listed : grouped l.block (drop l.mark-index l.marks) l.groups.items ≡ grouped 0 l.marks (replicate l.count []);
}
