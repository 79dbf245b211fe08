use Rattle.std.proofs.Common.{◌≡◌, take, None}
use Rattle.c_syntax.specs.Graph.{function_named}
use Rattle.check_limits.proofs.main_function.find.Given as goal

abbrev pub invariant-loop-item : goal.invariant-loop-item
invariant-loop-item l = function_named l.name (take l.item-index l.items) ≡ None
