use Rattle.std.proofs.Common.{◌≡◌, take, flat_map}
use Rattle.lower_names.specs.Files.{item_shapes}
use Rattle.lower_names.proofs.files.shapes.Given as goal

abbrev pub invariant-loop-item : goal.invariant-loop-item
invariant-loop-item l = l.out ≡ flat_map item_shapes (take l.item-index l.items)
