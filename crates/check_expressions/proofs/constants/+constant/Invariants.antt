use Rattle.std.proofs.Common.{◌+◌, ◌*◌}
use Rattle.c_syntax.specs.Sizes.{expression_nodes}
use Rattle.check_expressions.proofs.constants.+constant.Given as goal

abbrev pub decreases-constant : goal.decreases-constant
decreases-constant l = 2 * expression_nodes l.e.now

abbrev pub decreases-binary : goal.decreases-binary
decreases-binary l = 2 * (expression_nodes l.left.now + expression_nodes l.right.now) + 1

abbrev pub decreases-and : goal.decreases-and
decreases-and l = 2 * (expression_nodes l.left.now + expression_nodes l.right.now) + 1

abbrev pub decreases-or : goal.decreases-or
decreases-or l = 2 * (expression_nodes l.left.now + expression_nodes l.right.now) + 1

abbrev pub decreases-comma : goal.decreases-comma
decreases-comma l = 2 * (expression_nodes l.left.now + expression_nodes l.right.now) + 1

abbrev pub decreases-choose : goal.decreases-choose
decreases-choose l = 2 * (expression_nodes l.test.now + expression_nodes l.yes.now + expression_nodes l.no.now) + 1
