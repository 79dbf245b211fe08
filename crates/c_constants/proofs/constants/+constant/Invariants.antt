use Rattle.std.proofs.Common.{ℕ, ◌+◌, ◌*◌, ◌≡◌, ◌≤◌, map, sum, drop, length}
use Rattle.c_syntax.specs.Sizes.{expression_nodes}
use Rattle.c_meaning.specs.Meaning.{called, no_calls, expression}
use Rattle.c_constants.specs.Constant.{nowhere}
use Rattle.c_constants.proofs.constants.+constant.Given as goal

abbrev pub decreases-value_of : goal.decreases-value_of
decreases-value_of l = 2 * expression_nodes l.e.now

abbrev pub decreases-place_of : goal.decreases-place_of
decreases-place_of l = 2 * expression_nodes l.e.now

abbrev pub decreases-binary : goal.decreases-binary
decreases-binary l = 2 * (expression_nodes l.left.now + expression_nodes l.right.now) + 1

abbrev pub decreases-and : goal.decreases-and
decreases-and l = 2 * (expression_nodes l.left.now + expression_nodes l.right.now) + 1

abbrev pub decreases-or : goal.decreases-or
decreases-or l = 2 * (expression_nodes l.left.now + expression_nodes l.right.now) + 1

abbrev pub decreases-comma : goal.decreases-comma
decreases-comma l = 2 * (expression_nodes l.left.now + expression_nodes l.right.now) + 1

abbrev pub decreases-choose : goal.decreases-choose
decreases-choose l = 2 * (expression_nodes l.test.now + expression_nodes l.yes.now + expression_nodes l.no.now) + 1

abbrev pub decreases-call : goal.decreases-call
decreases-call l = 2 * sum (map expression_nodes l.args.now) + 1

abbrev pub invariant-call-loop-arg : goal.invariant-call-loop-arg
invariant-call-loop-arg l = called no_calls l.name (map (λ e. e.value no_calls) (map expression l.args)) nowhere ≡ called no_calls l.name (map (λ e. e.value no_calls) (map expression (drop l.arg-index l.args))) nowhere

abbrev pub decreases-assign : goal.decreases-assign
decreases-assign l = 2 * (expression_nodes l.place.now + expression_nodes l.right.now) + 1

abbrev pub decreases-step : goal.decreases-step
decreases-step l = 2 * expression_nodes l.place.now + 1
