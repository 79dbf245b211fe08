use Rattle.std.proofs.Common.{◌≡◌, true, take}
use Rattle.std.specs.List.{list_all}
use Rattle.c_syntax.specs.Literals.{literals_are_words}
use Rattle.lower_checked.proofs.expressions.expressions_hold_words.Given as goal

abbrev pub invariant-loop-e : goal.invariant-loop-e
invariant-loop-e l = list_all literals_are_words (take l.e-index l.all) ≡ true
