use Rattle.std.proofs.Common.{◌≡◌, ◌+◌, drop}
use Rattle.elf_image.specs.Held.{has}
use Rattle.elf_image.proofs.read.numbers.has_bytes.Given as goal

abbrev pub invariant-loop-w : goal.invariant-loop-w
invariant-loop-w l = record {
  rest : has 1 (drop l.w-index l.wanted) l.place l.bytes ≡ has 1 l.wanted l.at l.bytes;
  place : l.place ≡ l.at + l.w-index;
}
