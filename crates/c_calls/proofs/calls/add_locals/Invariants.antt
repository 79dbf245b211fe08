use Rattle.std.proofs.Common.{◌≡◌, ◌++◌, take}
use Rattle.std.specs.List.{flat_map}
use Rattle.c_syntax.specs.Graph.{local_calls}
use Rattle.c_calls.proofs.calls.add_locals.Given as goal

abbrev pub invariant-loop-local : goal.invariant-loop-local
invariant-loop-local l = l.calls ≡ l.fn.calls ++ flat_map local_calls (take l.local-index l.locals)
