use Rattle.std.proofs.Common.{◌≡◌, ◌-◌, ◌++◌}
use Rattle.double_law.specs.Emitted.{parameter_items}
use Rattle.duplicate_pass.proofs.starts.put_parameters.Given as goal

abbrev pub invariant-loop-number : goal.invariant-loop-number
invariant-loop-number l = l.out ++ parameter_items l.fn.places l.fn.pairs l.number (l.fn.params - l.number) ≡ l.fn.out ++ parameter_items l.fn.places l.fn.pairs 0 l.fn.params
