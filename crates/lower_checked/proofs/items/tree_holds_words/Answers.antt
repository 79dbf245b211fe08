use Rattle.lower_checked.specs.Cases.{item_cases}
use Rattle.lower_checked.proofs.Parts.{to_the_end}
use Rattle.lower_checked.proofs.TreeLiteralsBodies.{in_every_body}
use Rattle.lower_checked.proofs.items.tree_holds_words.Goals as goal

pub returns-clause-cases : goal.returns-clause-cases
returns-clause-cases c = in_every_body c.args.items.now (to_the_end item_cases c.args.items.now c.loop-item.item-index c.loop-item-test.false c.loop-item.invariant.cases)
