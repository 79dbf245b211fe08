use Rattle.lint_words.specs.WindowList.{WindowsBefore}
use Rattle.window_lister.proofs.listing.push_windows.Given as goal

abbrev pub invariant-loop-r : goal.invariant-loop-r
invariant-loop-r l = WindowsBefore l.fn.text (l.fn.a, l.r) l.list.items
