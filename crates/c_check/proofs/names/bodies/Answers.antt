use Rattle.std.proofs.Common.{◌∙◌}
use Rattle.c_check.proofs.Named.{all_defined}
use Rattle.c_check.proofs.names.bodies.Goals as goal

pub returns-clause-ok : goal.returns-clause-ok
returns-clause-ok c = λ name. c.loop-item.invariant name ∙ all_defined c.args.items.now c.loop-item.item-index name c.loop-item-test.false
