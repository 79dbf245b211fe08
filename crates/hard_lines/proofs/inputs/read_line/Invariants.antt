use Rattle.std.proofs.Common.{length}
use Rattle.hard_lines.specs.Inputs.{placed_line}
use Rattle.hard_lines.proofs.Reading.{Reading}
use Rattle.hard_lines.proofs.inputs.read_line.Given as goal

abbrev pub invariant-loop-rest : goal.invariant-loop-rest
invariant-loop-rest l = Reading (placed_line l.line l.text) (placed_line l.line l.rest) l.initial.numbers.items l.numbers.items

abbrev pub decreases-loop-rest : goal.decreases-loop-rest
decreases-loop-rest l = length l.rest
