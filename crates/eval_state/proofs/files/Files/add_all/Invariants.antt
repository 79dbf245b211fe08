use Rattle.std.proofs.Common.{◌≡◌, ◌++◌, take, map}
use Rattle.c_meaning.specs.Meaning.{global}
use Rattle.eval_state.proofs.files.Files.add_all.Given as goal

abbrev pub invariant-loop-variable : goal.invariant-loop-variable
invariant-loop-variable l = l.self ≡ l.fn.self ++ map global (take l.variable-index l.variables)
