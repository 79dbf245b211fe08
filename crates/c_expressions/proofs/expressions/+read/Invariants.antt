use Rattle.std.proofs.Common.{◌≡◌, ◌≤◌, ◌+◌, ◌-◌, ◌*◌, ℕ, suc, ◌^◌, length, map}
use Rattle.c_syntax.specs.Sizes.{expression_depth as depth, greatest}
use Rattle.c_grammar.specs.ReadExpressions.{read, chain, arguments, commas}
use Rattle.c_grammar.proofs.Steps.{with_front}
use Rattle.c_expressions.proofs.expressions.+read.Given as goal

abbrev pub decreases-read_part : goal.decreases-read_part
decreases-read_part l = l.limit * 2 ^ 20 + 1

abbrev pub decreases-read_unary : goal.decreases-read_unary
decreases-read_unary l = l.limit * 2 ^ 20 + 2 ^ 18

abbrev pub decreases-read_primary : goal.decreases-read_primary
decreases-read_primary l = l.limit * 2 ^ 20 + 2 ^ 17

abbrev pub decreases-read_named : goal.decreases-read_named
decreases-read_named l = l.limit * 2 ^ 20 + 2 ^ 16

abbrev pub decreases-read_call : goal.decreases-read_call
decreases-read_call l = l.limit * 2 ^ 20 + 2 ^ 15

abbrev pub decreases-read_arguments : goal.decreases-read_arguments
decreases-read_arguments l = l.limit * 2 ^ 20 + 2 ^ 14

abbrev pub decreases-read_level : goal.decreases-read_level
decreases-read_level l = l.limit * 2 ^ 20 + 2 ^ 18 + 1 + l.k

abbrev pub decreases-read_chain : goal.decreases-read_chain
decreases-read_chain l = l.limit * 2 ^ 20 + 2 ^ 18

abbrev pub decreases-cond_layer : goal.decreases-cond_layer
decreases-cond_layer l = l.limit * 2 ^ 20 + 2 ^ 19 + 1

abbrev pub decreases-read_choose : goal.decreases-read_choose
decreases-read_choose l = l.limit * 2 ^ 20 + 2 ^ 19

abbrev pub decreases-read_middle : goal.decreases-read_middle
decreases-read_middle l = l.limit * 2 ^ 20 + 2 ^ 17

abbrev pub decreases-assign_layer : goal.decreases-assign_layer
decreases-assign_layer l = l.limit * 2 ^ 20 + 2 ^ 19 + 2

abbrev pub decreases-read_value : goal.decreases-read_value
decreases-read_value l = l.limit * 2 ^ 20 + 2 ^ 19

abbrev pub decreases-comma_layer : goal.decreases-comma_layer
decreases-comma_layer l = l.limit * 2 ^ 20 + 2 ^ 19 + 3

abbrev pub decreases-read_commas : goal.decreases-read_commas
decreases-read_commas l = l.limit * 2 ^ 20 + 2 ^ 19

abbrev pub decreases-read_comma : goal.decreases-read_comma
decreases-read_comma l = l.limit * 2 ^ 20 + 1

abbrev pub decreases-read_assign : goal.decreases-read_assign
decreases-read_assign l = l.limit * 2 ^ 20 + 1

abbrev pub decreases-read_cond : goal.decreases-read_cond
decreases-read_cond l = l.limit * 2 ^ 20 + 1

abbrev pub invariant-read_chain-loop-token : goal.invariant-read_chain-loop-token
invariant-read_chain-loop-token l = (f : ℕ) × (chain (read l.limit) l.limit l.k f l.left l.rest ≡ chain (read l.limit) l.limit l.k (suc l.limit) l.fn.left l.tokens) × (l.limit + 2 ≤ f + l.depth) × (l.depth ≡ depth l.left) × (l.depth ≤ l.limit + 1)

abbrev pub decreases-read_chain-loop-token : goal.decreases-read_chain-loop-token
decreases-read_chain-loop-token l = l.limit + 2 - l.depth

abbrev pub invariant-read_commas-loop-token : goal.invariant-read_commas-loop-token
invariant-read_commas-loop-token l = (f : ℕ) × (commas (read l.limit) l.limit f l.left l.rest ≡ commas (read l.limit) l.limit (suc l.limit) l.fn.left l.tokens) × (l.limit + 2 ≤ f + l.depth) × (l.depth ≡ depth l.left) × (l.depth ≤ l.limit + 1)

abbrev pub decreases-read_commas-loop-token : goal.decreases-read_commas-loop-token
decreases-read_commas-loop-token l = l.limit + 2 - l.depth

abbrev pub invariant-read_arguments-loop-arg : goal.invariant-read_arguments-loop-arg
invariant-read_arguments-loop-arg l = (f : ℕ) × (length l.rest ≤ f) × (with_front l.args (arguments (read l.limit) f l.rest) ≡ arguments (read l.limit) (length l.tokens) l.tokens) × (l.deepest ≡ greatest (map depth l.args)) × (l.deepest ≤ l.limit)

abbrev pub decreases-read_arguments-loop-arg : goal.decreases-read_arguments-loop-arg
decreases-read_arguments-loop-arg l = length l.rest
