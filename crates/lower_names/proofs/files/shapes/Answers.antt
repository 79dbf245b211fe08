use Rattle.std.proofs.Common.{◌∙◌, ap, arith, flat_map}
use Rattle.std.proofs.lemmas.List.{take_all}
use Rattle.lower_names.specs.Files.{item_shapes}
use Rattle.lower_names.proofs.Joined.{shapes_joined}
use Rattle.lower_names.proofs.files.shapes.Goals as goal

pub returns : goal.returns
returns c =
    c.into_vec.ensures ∙ c.loop-item.invariant ∙ ap (flat_map item_shapes) (take_all c.loop-item.item-index c.args.items.now (omega (arith, c.loop-item-test.false))) ∙ shapes_joined c.args.items.now
