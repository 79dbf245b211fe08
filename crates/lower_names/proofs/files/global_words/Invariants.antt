use Rattle.std.proofs.Common.{◌≡◌, take, flat_map}
use Rattle.lower_names.specs.Files.{item_words}
use Rattle.lower_names.proofs.files.global_words.Given as goal

abbrev pub invariant-loop-item : goal.invariant-loop-item
invariant-loop-item l = l.out ≡ flat_map item_words (take l.item-index l.items)
