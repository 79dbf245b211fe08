use Rattle.std.proofs.Common.{◌≡◌, true, take}
use Rattle.std.specs.List.{list_all}
use Rattle.c_syntax.specs.Literals.{literals_are_words}
use Rattle.lower_checked.proofs.expressions.+expression_holds_words.Given as goal

abbrev pub invariant-loop-arg : goal.invariant-loop-arg
invariant-loop-arg l = list_all literals_are_words (take l.arg-index l.arg-items) ≡ true
