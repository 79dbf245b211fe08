use Rattle.std.proofs.Common.{◌≡◌, ◌≤◌, ◌++◌, take}
use Rattle.std.specs.Prelude.{IsTrue}
use Rattle.std.specs.List.{flat_map}
use Rattle.tool_outcomes.specs.Pairs.{alias_line}
use Rattle.tool_commands.proofs.list_file.write_aliases.Given as goal

abbrev pub invariant-loop-alias : goal.invariant-loop-alias
invariant-loop-alias g l = record {
  tells : g.O.Sink.tells l.out ≡ g.O.Sink.tells l.fn.out;
  faults : g.O.Sink.faults l.fn.out ≤ g.O.Sink.faults l.out;
  written : IsTrue (g.O.Sink.tells l.fn.out) → g.O.Sink.written l.out ≡ g.O.Sink.written l.fn.out ++ flat_map alias_line (take l.alias-index l.aliases);
}
