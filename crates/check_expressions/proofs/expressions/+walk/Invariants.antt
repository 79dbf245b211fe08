use Rattle.std.proofs.Common.{◌≡◌, ◌+◌, ◌*◌, ◌≤◌, ◌++◌, map, sum, reverse, length, Ok}
use Rattle.c_syntax.specs.Sizes.{expression_nodes}
use Rattle.check_rules.specs.Fault.{◌>>=◌}
use Rattle.check_rules.specs.Scopes.{in_force}
use Rattle.check_rules.specs.Walk.{walked, valued_each}
use Rattle.check_expressions.proofs.expressions.+walk.Given as goal

abbrev pub decreases-walk : goal.decreases-walk
decreases-walk l = 4 * expression_nodes l.e

abbrev pub decreases-value : goal.decreases-value
decreases-value l = 4 * expression_nodes l.e + 1

abbrev pub decreases-place : goal.decreases-place
decreases-place l = 4 * expression_nodes l.e + 2

abbrev pub decreases-values : goal.decreases-values
decreases-values l = 4 * sum (map expression_nodes l.args) + 3

abbrev pub invariant-values-loop-e : goal.invariant-values-loop-e
invariant-values-loop-e l = l.args ++ reverse l.turned ≡ l.fn.args

abbrev pub decreases-values-loop-e : goal.decreases-values-loop-e
decreases-values-loop-e l = length l.args

abbrev pub invariant-values-loop-e-2 : goal.invariant-values-loop-e-2
invariant-values-loop-e-2 l = record {
  fewer : sum (map expression_nodes (reverse l.turned)) ≤ sum (map expression_nodes l.fn.args);
  rest : valued_each (map walked l.fn.args) (in_force l.scopes) ≡ (valued_each (map walked (reverse l.turned)) (in_force l.scopes) >>= (λ es. Ok (l.all ++ es)));
}

abbrev pub decreases-values-loop-e-2 : goal.decreases-values-loop-e-2
decreases-values-loop-e-2 l = length l.turned
