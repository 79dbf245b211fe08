use Rattle.std.proofs.Common.{◌≡◌, map, sum, take, false}
use Rattle.c_syntax.specs.Costs.{function_weight}
use Rattle.check_limits.specs.Calls.{capped}
use Rattle.check_limits.specs.Tables.{chosen}
use Rattle.check_limits.proofs.call_pairs.flat_weights.Given as goal

abbrev pub invariant-loop-item : goal.invariant-loop-item
invariant-loop-item l = l.pairs ≡ capped (sum (map function_weight (chosen l.from l.reached l.recursive false (take l.item-index l.items))))
