use Rattle.std.proofs.Common.{◌+◌, ◌*◌}
use Rattle.third_lint.specs.WindowList.{WindowsBefore}
use Rattle.third_lint.proofs.windows.windows_third.Given as goal

abbrev pub invariant-loop-k : goal.invariant-loop-k
invariant-loop-k l = WindowsBefore l.fn.text (0x00400000 + 4 * l.k, 0) l.list.items
