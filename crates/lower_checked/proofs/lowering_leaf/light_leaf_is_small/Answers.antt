use Rattle.lower_checked.proofs.Leaf.{is_small}
use Rattle.lower_checked.proofs.lowering_leaf.light_leaf_is_small.Goals as goal

pub returns : goal.returns
returns c = is_small c.calls_are_callees.ensures c.only_main_where_alone.ensures
