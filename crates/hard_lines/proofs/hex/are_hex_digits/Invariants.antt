use Rattle.std.proofs.Common.{◌≡◌, true, take}
use Rattle.std.specs.List.{list_all}
use Rattle.hard_lines.specs.Faults.{is_hex_digit}
use Rattle.hard_lines.proofs.hex.are_hex_digits.Given as goal

abbrev pub invariant-loop-b : goal.invariant-loop-b
invariant-loop-b l = list_all is_hex_digit (take l.b-index l.digits) ≡ true
