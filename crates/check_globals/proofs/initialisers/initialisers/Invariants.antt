use Rattle.std.proofs.Common.{◌≡◌, ◌++◌, reverse, length, Ok}
use Rattle.check_rules.specs.Fault.{◌>>=◌}
use Rattle.check_rules.specs.Walk.{walk_initialisers}
use Rattle.check_globals.proofs.initialisers.initialisers.Given as goal

abbrev pub invariant-loop-e : goal.invariant-loop-e
invariant-loop-e l = l.es ++ reverse l.turned ≡ l.fn.es

abbrev pub decreases-loop-e : goal.decreases-loop-e
decreases-loop-e l = length l.es

abbrev pub invariant-loop-e-2 : goal.invariant-loop-e-2
invariant-loop-e-2 l = walk_initialisers l.fn.room l.fn.es l.scopes ≡ walk_initialisers l.left (reverse l.turned) l.scopes >>= (λ es. Ok (l.all ++ es))

abbrev pub decreases-loop-e-2 : goal.decreases-loop-e-2
decreases-loop-e-2 l = length l.turned
