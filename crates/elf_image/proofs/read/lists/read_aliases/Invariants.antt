use Rattle.std.proofs.Common.{◌≡◌, ◌++◌, ◌+◌, ◌*◌, ◌-◌}
use Rattle.elf_image.specs.Refusal.{pairs_at}
use Rattle.elf_image.proofs.read.lists.read_aliases.Given as goal

abbrev pub invariant-loop-i : goal.invariant-loop-i
invariant-loop-i l = record {
  read : l.aliases.items ++ pairs_at (l.count - l.i) l.place l.bytes ≡ pairs_at l.count l.at l.bytes;
  place : l.place ≡ l.at + 8 * l.i;
}
