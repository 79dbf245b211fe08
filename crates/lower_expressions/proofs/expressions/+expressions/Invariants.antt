use Rattle.std.proofs.Common.{◌≡◌, ◌+◌, ◌*◌, ◌<◌, ◌^◌, ◌++◌, map, sum, drop}
use Rattle.c_syntax.specs.Sizes.{expression_nodes}
use Rattle.lower_rules.specs.Expressions.{low, args_blocks, args_lines}
use Rattle.lower_expressions.specs.Names.{names_of}
use Rattle.lower_expressions.specs.Written.{written}
use Rattle.lower_expressions.proofs.expressions.+expressions.Given as goal

abbrev pub decreases-value : goal.decreases-value
decreases-value l = 4 * expression_nodes l.e.now + 1

abbrev pub decreases-condition : goal.decreases-condition
decreases-condition l = 4 * expression_nodes l.e.now + 2

abbrev pub decreases-designated : goal.decreases-designated
decreases-designated l = 4 * expression_nodes l.e.now

abbrev pub decreases-indexed : goal.decreases-indexed
decreases-indexed l = 4 * expression_nodes l.index.now + 2

abbrev pub decreases-binary : goal.decreases-binary
decreases-binary l = 4 * (expression_nodes l.left.now + expression_nodes l.right.now) + 2

abbrev pub decreases-truth : goal.decreases-truth
decreases-truth l = 4 * (expression_nodes l.left.now + expression_nodes l.right.now) + 4

abbrev pub decreases-logic : goal.decreases-logic
decreases-logic l = 4 * (expression_nodes l.left.now + expression_nodes l.right.now) + 3

abbrev pub decreases-choose : goal.decreases-choose
decreases-choose l = 4 * (expression_nodes l.test.now + expression_nodes l.yes.now + expression_nodes l.no.now) + 3

abbrev pub decreases-arguments : goal.decreases-arguments
decreases-arguments l = 4 * sum (map expression_nodes l.args.now) + 2

abbrev pub decreases-call : goal.decreases-call
decreases-call l = 4 * sum (map expression_nodes l.args.now) + 3

abbrev pub decreases-assign : goal.decreases-assign
decreases-assign l = 4 * (expression_nodes l.place.now + expression_nodes l.right.now) + 2

abbrev pub invariant-arguments-loop-e : goal.invariant-arguments-loop-e
invariant-arguments-loop-e l = record {
  put : written l.out ++ args_lines (map (low (names_of l.table)) (drop l.e-index l.args)) l.block l.to ≡ written l.initial.out ++ args_lines (map (low (names_of l.table)) l.args) l.fn.b l.fn.t;
  count : l.block + args_blocks (map (low (names_of l.table)) (drop l.e-index l.args)) ≡ l.fn.b + args_blocks (map (low (names_of l.table)) l.args);
  room : l.to + 3 * sum (map expression_nodes (drop l.e-index l.args)) < 2 ^ 32;
}
