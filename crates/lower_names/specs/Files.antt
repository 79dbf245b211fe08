-- The variables at file scope that one external declaration declares. It serves private contracts.
use Rattle.std.specs.Prelude.{ℕ, List, map}
use Rattle.c_syntax.specs.declared.tree.TopItem.{TopItem}
use Rattle.c_meaning.specs.Run.{Global}
use Rattle.c_meaning.specs.Meaning.{globals_of}
use Rattle.lower_rules.specs.Bindings.{GlobalShape}
use Rattle.lower_rules.specs.Programs.{object_words, shape_of}

abbrev pub item_shapes : TopItem → List GlobalShape
item_shapes item = map shape_of (globals_of item)

abbrev pub words_of : Global → List ℕ
words_of g = object_words g.object

abbrev pub item_words : TopItem → List (List ℕ)
item_words item = map words_of (globals_of item)
