use Rattle.std.proofs.Common.{take}
use Rattle.c_costs.specs.Bodies.{AreBodies}
use Rattle.c_costs.proofs.bodies.bodies_of.Given as goal

abbrev pub invariant-loop-item : goal.invariant-loop-item
invariant-loop-item l = AreBodies (take l.item-index l.items) l.bodies
