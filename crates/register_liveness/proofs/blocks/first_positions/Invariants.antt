use Rattle.std.proofs.Common.{◌≡◌, ℕ, ◌<◌, get_or, length}
use Rattle.mid_blocks.specs.Lines.{first_of}
use Rattle.register_liveness.proofs.blocks.first_positions.Given as goal

abbrev pub invariant-loop-block : goal.invariant-loop-block
invariant-loop-block l = record {
  one_each : length l.firsts.items ≡ l.block-index;
  each : (b : ℕ) → b < l.block-index → get_or l.firsts.items b 0 ≡ first_of l.function b;
  here : l.at ≡ first_of l.function l.block-index;
}
