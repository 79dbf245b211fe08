use Rattle.std.proofs.Common.{◌≡◌, true, take}
use Rattle.std.specs.List.{list_all}
use Rattle.c_syntax.specs.Literals.{label_literals}
use Rattle.lower_checked.specs.Cases.{label_case}
use Rattle.lower_checked.proofs.statements.labels_hold_words.Given as goal

abbrev pub invariant-loop-label : goal.invariant-loop-label
invariant-loop-label l = record { literals : list_all label_literals (take l.label-index l.labels) ≡ true; cases : list_all label_case (take l.label-index l.labels) ≡ true }
