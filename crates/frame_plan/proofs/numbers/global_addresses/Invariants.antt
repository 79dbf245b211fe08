use Rattle.std.proofs.Common.{◌≡◌, ◌+◌, ◌++◌, length, drop, map, sum}
use Rattle.frame_plan.specs.Frames.{addresses}
use Rattle.frame_plan.proofs.numbers.global_addresses.Given as goal

abbrev pub invariant-loop-global : goal.invariant-loop-global
invariant-loop-global l = record {
  put : l.out.items ++ addresses l.cell (drop l.global-index l.globals) ≡ addresses 0 l.globals;
  few : l.cell + sum (map length (drop l.global-index l.globals)) ≡ sum (map length l.globals);
}
