use Rattle.std.proofs.Common.{◌≡◌, false, take}
use Rattle.std.specs.List.{list_any}
use Rattle.hard_lines.specs.Faults.{is_line_byte}
use Rattle.hard_lines.proofs.faults.has_line_byte.Given as goal

abbrev pub invariant-loop-b : goal.invariant-loop-b
invariant-loop-b l = list_any is_line_byte (take l.b-index l.line) ≡ false
