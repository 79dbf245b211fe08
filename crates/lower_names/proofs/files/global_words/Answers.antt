use Rattle.std.proofs.Common.{◌∙◌, ap, arith, flat_map}
use Rattle.std.proofs.lemmas.List.{take_all}
use Rattle.lower_names.specs.Files.{item_words}
use Rattle.lower_names.proofs.Joined.{words_joined}
use Rattle.lower_names.proofs.files.global_words.Goals as goal

pub returns : goal.returns
returns c =
    c.loop-item.invariant ∙ ap (flat_map item_words) (take_all c.loop-item.item-index c.args.items.now (omega (arith, c.loop-item-test.false))) ∙ words_joined c.args.items.now
