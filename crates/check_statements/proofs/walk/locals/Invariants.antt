use Rattle.std.proofs.Common.{◌≡◌, ◌+◌, ◌≤◌, ◌++◌, map, sum, reverse, length, Ok}
use Rattle.c_syntax.specs.Sizes.{local_nodes}
use Rattle.check_rules.specs.Fault.{◌>>=◌}
use Rattle.check_rules.specs.Walk.{walk_locals}
use Rattle.check_statements.proofs.walk.locals.Given as goal

abbrev pub invariant-loop-d : goal.invariant-loop-d
invariant-loop-d l = l.ds ++ reverse l.turned ≡ l.fn.ds

abbrev pub decreases-loop-d : goal.decreases-loop-d
decreases-loop-d l = length l.ds

abbrev pub invariant-loop-d-2 : goal.invariant-loop-d-2
invariant-loop-d-2 l = record {
  room : length l.scopes.decls + sum (map local_nodes (reverse l.turned)) ≤ length l.fn.scopes.decls + sum (map local_nodes l.fn.ds);
  rest : walk_locals l.fn.ds l.fn.scopes ≡ (walk_locals (reverse l.turned) l.scopes >>= (λ (ds, w). Ok (l.all ++ ds, w)));
}

abbrev pub decreases-loop-d-2 : goal.decreases-loop-d-2
decreases-loop-d-2 l = length l.turned
