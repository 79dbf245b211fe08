use Rattle.std.proofs.Common.{◌≡◌, ◌+◌, ◌*◌, ◌-◌}
use Rattle.std.specs.Prelude.{None}
use Rattle.elf_image.specs.Bounds.{all_ascending, is_alias}
use Rattle.elf_image.specs.Refusal.{pairs_at}
use Rattle.elf_image.proofs.read.sections.aliases_ascend.Given as goal

abbrev pub invariant-loop-i : goal.invariant-loop-i
invariant-loop-i l = record {
  rest : all_ascending (is_alias l.words) l.last (pairs_at (l.count - l.i) l.place l.bytes) ≡ all_ascending (is_alias l.words) None (pairs_at l.count l.at l.bytes);
  place : l.place ≡ l.at + 8 * l.i;
}
