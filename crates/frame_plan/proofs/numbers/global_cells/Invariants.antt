use Rattle.std.proofs.Common.{◌≡◌, ◌+◌, length, drop, map, sum}
use Rattle.frame_plan.proofs.numbers.global_cells.Given as goal

abbrev pub invariant-loop-global : goal.invariant-loop-global
invariant-loop-global l = l.cells + sum (map length (drop l.global-index l.globals)) ≡ sum (map length l.globals)
