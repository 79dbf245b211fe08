use Rattle.std.proofs.Common.{◌≡◌, drop}
use Rattle.std.specs.Prelude.{None}
use Rattle.elf_image.specs.Bounds.{all_ascending, is_alias}
use Rattle.elf_image.proofs.bounds.aliases_ascend.Given as goal

abbrev pub invariant-loop-a : goal.invariant-loop-a
invariant-loop-a l = all_ascending (is_alias l.words) l.last (drop l.a-index l.aliases) ≡ all_ascending (is_alias l.words) None l.aliases
