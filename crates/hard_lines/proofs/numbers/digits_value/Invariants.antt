use Rattle.std.proofs.Common.{◌≡◌, ◌-◌, ◌^◌, min, take}
use Rattle.hard_lines.specs.Numbers.{digits_value}
use Rattle.hard_lines.proofs.numbers.digits_value.Given as goal

abbrev pub invariant-loop-b : goal.invariant-loop-b
invariant-loop-b l = l.value ≡ min (digits_value (take l.b-index l.digits)) (2 ^ 128 - 1)
