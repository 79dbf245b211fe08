use Rattle.std.proofs.Common.{◌≡◌, ◌++◌, take}
use Rattle.lower_rules.specs.Programs.{local_variables}
use Rattle.lower_names.proofs.declared.push_locals.Given as goal

abbrev pub invariant-loop-local : goal.invariant-loop-local
invariant-loop-local l = l.out ≡ l.fn.out ++ local_variables (take l.local-index l.locals)
