use Rattle.std.proofs.Common.{◌≡◌, true, take}
use Rattle.std.specs.List.{list_all}
use Rattle.c_syntax.specs.Literals.{local_literals}
use Rattle.lower_checked.proofs.statements.locals_hold_words.Given as goal

abbrev pub invariant-loop-local : goal.invariant-loop-local
invariant-loop-local l = list_all local_literals (take l.local-index l.locals) ≡ true
