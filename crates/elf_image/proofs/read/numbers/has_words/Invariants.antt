use Rattle.std.proofs.Common.{◌≡◌, ◌+◌, ◌*◌, drop}
use Rattle.elf_image.specs.Held.{has}
use Rattle.elf_image.proofs.read.numbers.has_words.Given as goal

abbrev pub invariant-loop-w : goal.invariant-loop-w
invariant-loop-w l = record {
  rest : has 4 (drop l.w-index l.words) l.place l.bytes ≡ has 4 l.words l.at l.bytes;
  place : l.place ≡ l.at + 4 * l.w-index;
}
