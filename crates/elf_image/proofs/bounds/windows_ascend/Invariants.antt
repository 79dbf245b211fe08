use Rattle.std.proofs.Common.{◌≡◌, drop}
use Rattle.std.specs.Prelude.{None}
use Rattle.elf_image.specs.Bounds.{all_ascending, is_window}
use Rattle.elf_image.proofs.bounds.windows_ascend.Given as goal

abbrev pub invariant-loop-w : goal.invariant-loop-w
invariant-loop-w l = all_ascending (is_window l.words) l.last (drop l.w-index l.windows) ≡ all_ascending (is_window l.words) None l.windows
