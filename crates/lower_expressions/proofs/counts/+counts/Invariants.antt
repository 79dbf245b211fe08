use Rattle.std.proofs.Common.{◌≡◌, ◌+◌, ◌*◌, map, sum, drop}
use Rattle.c_syntax.specs.Sizes.{expression_nodes}
use Rattle.lower_rules.specs.Expressions.{low, args_blocks}
use Rattle.lower_expressions.specs.Names.{names_of}
use Rattle.lower_expressions.proofs.counts.+counts.Given as goal

abbrev pub decreases-argument_blocks : goal.decreases-argument_blocks
decreases-argument_blocks l = 4 * sum (map expression_nodes l.args.now) + 2

abbrev pub decreases-value_blocks : goal.decreases-value_blocks
decreases-value_blocks l = 4 * expression_nodes l.e.now

abbrev pub decreases-test_blocks : goal.decreases-test_blocks
decreases-test_blocks l = 4 * expression_nodes l.e.now + 1

abbrev pub decreases-place_blocks : goal.decreases-place_blocks
decreases-place_blocks l = 4 * expression_nodes l.e.now

abbrev pub invariant-argument_blocks-loop-e : goal.invariant-argument_blocks-loop-e
invariant-argument_blocks-loop-e l = l.count + args_blocks (map (low (names_of l.table)) (drop l.e-index l.args)) ≡ args_blocks (map (low (names_of l.table)) l.args)
