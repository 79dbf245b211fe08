use Rattle.std.proofs.Common.{◌≡◌, ◌≤◌, length, take, map, sum}
use Rattle.mid_blocks.specs.Lines.{lines}
use Rattle.mid_code.proofs.programs.few_lines.Given as goal

abbrev pub invariant-loop-function : goal.invariant-loop-function
invariant-loop-function l = record {
  counted : l.count ≡ sum (map (λ f. length (lines f)) (take l.function-index l.functions));
  few : l.count ≤ 62914560;
}
