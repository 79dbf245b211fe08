use Rattle.std.proofs.Common.{◌≡◌, ◌≤◌, ℕ, drop, get_or, ◌++◌, length}
use Rattle.alias_lister.specs.Listing.{listed}
use Rattle.alias_lister.proofs.listing.put_blocks.Given as goal

abbrev pub invariant-loop-number : goal.invariant-loop-number
invariant-loop-number l = record {
  long : length l.stamps ≡ length l.blocks;
  fresh : (w : ℕ) → get_or l.stamps w 0 ≤ l.number;
  listed : l.out.items ++ listed l.marks l.number (drop l.number l.blocks) ≡ l.initial.out.items ++ listed l.marks 0 l.blocks;
}
