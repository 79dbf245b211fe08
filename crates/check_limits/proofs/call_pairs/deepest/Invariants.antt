use Rattle.std.proofs.Common.{◌≡◌, ◌+◌, map, take, true}
use Rattle.c_syntax.specs.Sizes.{greatest}
use Rattle.c_syntax.specs.Costs.{function_weight}
use Rattle.check_limits.specs.Calls.{capped}
use Rattle.check_limits.specs.Tables.{chosen}
use Rattle.check_limits.proofs.call_pairs.deepest.Given as goal

abbrev pub invariant-loop-item : goal.invariant-loop-item
invariant-loop-item l = l.most ≡ capped (greatest (map (λ f. function_weight f + 2) (chosen l.from l.reached l.recursive true (take l.item-index l.items))))
