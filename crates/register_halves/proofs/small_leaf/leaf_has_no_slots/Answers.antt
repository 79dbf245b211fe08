use Rattle.register_halves.proofs.Slots.{no_slots}
use Rattle.register_halves.proofs.small_leaf.leaf_has_no_slots.Goals as goal

pub returns : goal.returns
returns c = no_slots c.few_variables.ensures
