use Rattle.std.proofs.Common.{◌≡◌, map, take}
use Rattle.check_rules.specs.Limits.{joined, local_calls}
use Rattle.check_limits.specs.Tables.{first_lacking}
use Rattle.check_limits.proofs.calls.in_locals.Given as goal

abbrev pub invariant-loop-local : goal.invariant-loop-local
invariant-loop-local l = l.first ≡ first_lacking l.weights (joined (map local_calls (take l.local-index l.locals)))
