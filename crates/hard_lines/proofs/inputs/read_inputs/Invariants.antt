use Rattle.std.proofs.Common.{◌≤◌, ◌+◌, length, []}
use Rattle.std.specs.List.{slice_split}
use Rattle.hard_lines.specs.Inputs.{placed, placed_lines, is_line_feed}
use Rattle.hard_lines.proofs.Reading.{Reading}
use Rattle.hard_lines.proofs.inputs.read_inputs.Given as goal

abbrev pub invariant-loop-rest : goal.invariant-loop-rest
invariant-loop-rest l = record {
  reading : Reading (placed l.bytes) (placed_lines l.line (slice_split is_line_feed l.rest)) [] l.numbers.items;
  lines : l.line + length l.rest ≤ 1 + length l.bytes;
}

abbrev pub decreases-loop-rest : goal.decreases-loop-rest
decreases-loop-rest l = length l.rest
