use Rattle.std.proofs.Common.{◌≡◌, ◌≤◌, ◌++◌, take}
use Rattle.std.specs.Prelude.{IsTrue}
use Rattle.std.specs.List.{flat_map}
use Rattle.tool_outcomes.specs.Pairs.{window_line}
use Rattle.tool_commands.proofs.list_file.write_windows.Given as goal

abbrev pub invariant-loop-window : goal.invariant-loop-window
invariant-loop-window g l = record {
  tells : g.O.Sink.tells l.out ≡ g.O.Sink.tells l.fn.out;
  faults : g.O.Sink.faults l.fn.out ≤ g.O.Sink.faults l.out;
  written : IsTrue (g.O.Sink.tells l.fn.out) → g.O.Sink.written l.out ≡ g.O.Sink.written l.fn.out ++ flat_map window_line (take l.window-index l.windows);
}
