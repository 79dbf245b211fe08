use Rattle.std.proofs.Common.{◌≡◌, ◌≤◌}
use Rattle.std.specs.Prelude.{None}
use Rattle.mips_isa.specs.Runs.{run}
use Rattle.mips_machine.specs.View.{state_of}
use Rattle.fault_replay.specs.Counts.{counted}
use Rattle.fault_replay.proofs.count.count_outputs.Given as goal

abbrev pub invariant-loop-n : goal.invariant-loop-n
invariant-loop-n l = record {
  state : state_of l.machine ≡ (run (state_of l.fn.machine) None l.n).state;
  counted : l.sofar ≡ counted (run (state_of l.fn.machine) None l.n).output;
  few : l.sofar.outputs ≤ l.n;
}
