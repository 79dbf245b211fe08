use Rattle.std.proofs.Common.{◌≡◌, ◌++◌, take, flat_map}
use Rattle.lower_names.specs.Parts.{variable_of_param}
use Rattle.lower_names.proofs.declared.push_params.Given as goal

abbrev pub invariant-loop-param : goal.invariant-loop-param
invariant-loop-param l = l.out ≡ l.fn.out ++ flat_map variable_of_param (take l.param-index l.params)
