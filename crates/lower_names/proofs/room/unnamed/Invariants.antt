use Rattle.std.proofs.Common.{◌≡◌, ◌+◌, length, take}
use Rattle.lower_rules.specs.Programs.{param_variables}
use Rattle.lower_names.proofs.room.unnamed.Given as goal

abbrev pub invariant-loop-param : goal.invariant-loop-param
invariant-loop-param l = l.count + length (param_variables (take l.param-index l.params)) ≡ l.param-index
