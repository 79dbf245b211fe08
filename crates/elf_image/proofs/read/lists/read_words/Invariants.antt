use Rattle.std.proofs.Common.{◌≡◌, ◌++◌, ◌+◌, ◌*◌, ◌-◌}
use Rattle.elf_image.specs.Refusal.{words_at}
use Rattle.elf_image.proofs.read.lists.read_words.Given as goal

abbrev pub invariant-loop-i : goal.invariant-loop-i
invariant-loop-i l = record {
  read : l.words.items ++ words_at (l.count - l.i) l.place l.bytes ≡ words_at l.count l.at l.bytes;
  place : l.place ≡ l.at + 4 * l.i;
}
