use Rattle.std.proofs.Common.{◌≡◌, ◌+◌, ◌*◌, ◌^◌, ◌≤◌, length, ◌++◌, drop}
use Rattle.layout_law.specs.Layout.{words}
use Rattle.code_layout.specs.Starts.{starts_from}
use Rattle.code_layout.proofs.table.block_starts.Given as goal

abbrev pub invariant-loop-block : goal.invariant-loop-block
invariant-loop-block l = record {
  listed : l.starts.items ++ starts_from l.head l.at (drop l.block-index l.blocks) ≡ starts_from l.head 0x00400000 l.blocks;
  fits : l.at + 4 * (words (drop l.block-index l.blocks) + l.head * length (drop l.block-index l.blocks)) ≤ 2 ^ 28;
}
