use Rattle.std.proofs.Common.{◌≡◌, length, take}
use Rattle.c_syntax.specs.Graph.{functions}
use Rattle.check_limits.proofs.chains.count_functions.Given as goal

abbrev pub invariant-loop-item : goal.invariant-loop-item
invariant-loop-item l = l.count ≡ length (functions (take l.item-index l.items))
