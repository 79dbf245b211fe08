use Rattle.std.proofs.Common.{◌≡◌, ◌≤◌, ◌+◌, ◌-◌, ℕ, suc}
use Rattle.c_syntax.specs.Sizes.{expression_depth as depth}
use Rattle.c_grammar.specs.ReadExpressions.{bumps}
use Rattle.c_expressions.proofs.expressions.read_bumps.Given as goal

abbrev pub invariant-loop-token : goal.invariant-loop-token
invariant-loop-token l = (f : ℕ) × (bumps l.limit f l.place l.rest ≡ bumps l.limit (suc l.limit) l.fn.place l.tokens) × (l.limit + 2 ≤ f + l.depth) × (l.depth ≡ depth l.place) × (l.depth ≤ l.limit + 1)

abbrev pub decreases-loop-token : goal.decreases-loop-token
decreases-loop-token l = l.limit + 2 - l.depth
