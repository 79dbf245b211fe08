use Rattle.std.proofs.Common.{◌≡◌, ◌+◌, ◌≤◌, length, take}
use Rattle.std.specs.List.{flat_map}
use Rattle.mid_blocks.specs.Lines.{block_lines}
use Rattle.mid_code.proofs.validity.count_lines.Given as goal

abbrev pub invariant-loop-block : goal.invariant-loop-block
invariant-loop-block l = record {
  counted : l.lines ≡ l.before + length (flat_map block_lines (take l.block-index l.blocks));
  few : l.lines ≤ 62914560;
}
