-- The cases of an item, and the parts of one: for the contracts of private functions alone.
use Rattle.std.specs.Prelude.{Bool, true}
use Rattle.std.specs.List.{list_all}
use Rattle.c_syntax.specs.declared.tree.Label.{Label}
use Rattle.c_syntax.specs.declared.tree.TopItem.{TopItem}
use Rattle.c_syntax.specs.declared.tree.TopItem.TheVariants as item
use Rattle.c_syntax.specs.Graph.{body_of}
use Rattle.c_meaning.specs.Meaning.{label_word}
use Rattle.lower_rules.specs.Labels.{is_word, cases_are_words}

-- whether the word of a label is a word, where it has one
abbrev pub label_case : Label → Bool
label_case l = is_word (label_word l)

-- whether the words of the cases in the body of a function are words
abbrev pub item_cases : TopItem → Bool
item_cases (item.Globals gs) = true
item_cases (item.Function f) = list_all cases_are_words (body_of f.body)
