use Rattle.std.proofs.Common.{◌≡◌, map, take, sum}
use Rattle.check_rules.specs.Walk.{elements}
use Rattle.check_limits.specs.Calls.{capped}
use Rattle.check_limits.proofs.globals.pairs_of_globals.Given as goal

abbrev pub invariant-loop-global : goal.invariant-loop-global
invariant-loop-global l = l.pairs ≡ capped (sum (map (λ g. elements g.shape g.first) (take l.global-index l.globals)))
