use Rattle.std.proofs.Common.{◌≡◌, ◌++◌, ◌+◌, ◌*◌, ◌-◌}
use Rattle.std.specs.Prelude.{IsTrue}
use Rattle.std.specs.List.{list_all}
use Rattle.elf_image.specs.Bounds.{has_register}
use Rattle.elf_image.specs.Refusal.{pairs_at}
use Rattle.elf_image.proofs.read.lists.read_windows.Given as goal

abbrev pub invariant-loop-i : goal.invariant-loop-i
invariant-loop-i l = record {
  read : l.windows.items ++ pairs_at (l.count - l.i) l.place l.bytes ≡ pairs_at l.count l.at l.bytes;
  registers : IsTrue (list_all has_register (pairs_at (l.count - l.i) l.place l.bytes));
  place : l.place ≡ l.at + 8 * l.i;
}
