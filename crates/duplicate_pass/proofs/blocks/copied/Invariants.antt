use Rattle.std.proofs.Common.{◌≡◌, ◌++◌, drop}
use Rattle.duplicate_pass.proofs.blocks.copied.Given as goal

abbrev pub invariant-loop-number : goal.invariant-loop-number
invariant-loop-number l = record {
  put : l.list ++ drop l.number-index l.from ≡ l.from;
}
