use Rattle.std.proofs.Common.{◌≡◌, true, take}
use Rattle.std.specs.List.{list_all}
use Rattle.c_syntax.specs.Literals.{item_literals}
use Rattle.lower_checked.specs.Cases.{item_cases}
use Rattle.lower_checked.proofs.items.tree_holds_words.Given as goal

abbrev pub invariant-loop-item : goal.invariant-loop-item
invariant-loop-item l = record { literals : list_all item_literals (take l.item-index l.items) ≡ true; cases : list_all item_cases (take l.item-index l.items) ≡ true }
