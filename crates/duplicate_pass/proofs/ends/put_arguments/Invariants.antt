use Rattle.std.proofs.Common.{◌≡◌, ◌+◌, ◌≤◌, length, ◌++◌, drop}
use Rattle.double_law.specs.Emitted.{argument_items}
use Rattle.duplicate_pass.proofs.ends.put_arguments.Given as goal

abbrev pub invariant-loop-arg : goal.invariant-loop-arg
invariant-loop-arg l = record {
  put : l.out ++ argument_items l.places l.number (drop l.arg-index l.args) ≡ l.initial.out ++ argument_items l.places 0 l.args;
  few : l.number + length (drop l.arg-index l.args) ≤ 4001;
}
