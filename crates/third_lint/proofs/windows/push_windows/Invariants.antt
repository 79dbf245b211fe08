use Rattle.third_lint.specs.WindowList.{WindowsBefore}
use Rattle.third_lint.proofs.windows.push_windows.Given as goal

abbrev pub invariant-loop-r : goal.invariant-loop-r
invariant-loop-r l = WindowsBefore l.fn.text (l.fn.a, l.r) l.list.items
