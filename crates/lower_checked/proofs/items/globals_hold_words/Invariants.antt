use Rattle.std.proofs.Common.{◌≡◌, true, take}
use Rattle.std.specs.List.{list_all}
use Rattle.c_syntax.specs.Literals.{global_literals}
use Rattle.lower_checked.proofs.items.globals_hold_words.Given as goal

abbrev pub invariant-loop-global : goal.invariant-loop-global
invariant-loop-global l = list_all global_literals (take l.global-index l.globals) ≡ true
