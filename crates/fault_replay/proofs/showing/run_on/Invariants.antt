use Rattle.std.proofs.Common.{◌≡◌, ◌≤◌, ◌++◌}
use Rattle.std.specs.Prelude.{IsTrue}
use Rattle.mips_isa.specs.Runs.{run}
use Rattle.mips_machine.specs.View.{state_of}
use Rattle.fault_replay.specs.Show.{word_lines}
use Rattle.fault_replay.proofs.showing.run_on.Given as goal

abbrev pub invariant-loop-n : goal.invariant-loop-n
invariant-loop-n g l = record {
  tells : g.O.Sink.tells l.out ≡ g.O.Sink.tells l.fn.out;
  faults : g.O.Sink.faults l.fn.out ≤ g.O.Sink.faults l.out;
  written : IsTrue (g.O.Sink.tells l.fn.out) → g.O.Sink.written l.out ≡ g.O.Sink.written l.fn.out ++ word_lines (run (state_of l.fn.machine) l.change l.n).output;
  state : state_of l.machine ≡ (run (state_of l.fn.machine) l.change l.n).state;
}
