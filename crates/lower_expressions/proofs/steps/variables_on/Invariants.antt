use Rattle.std.proofs.Common.{◌≡◌, ◌+◌, ◌<◌, ◌^◌, length, ◌++◌, drop}
use Rattle.lower_rules.specs.Expressions.{from_on}
use Rattle.lower_expressions.proofs.steps.variables_on.Given as goal

abbrev pub invariant-loop-e : goal.invariant-loop-e
invariant-loop-e l = record {
  put : l.list ++ from_on (length (drop l._e-index l.args)) l.to ≡ from_on (length l.args) l.fn.t;
  few : l.to + length (drop l._e-index l.args) < 2 ^ 32;
}
