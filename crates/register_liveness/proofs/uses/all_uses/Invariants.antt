use Rattle.std.proofs.Common.{◌≡◌, ℕ, ◌<◌, [], get_or, length}
use Rattle.register_liveness.specs.Uses.{IsRow}
use Rattle.register_liveness.proofs.uses.all_uses.Given as goal

abbrev pub invariant-loop-block : goal.invariant-loop-block
invariant-loop-block l = record {
  one_each : length l.uses.items ≡ l.block-index;
  rows : (b : ℕ) → b < l.block-index → IsRow l.function b (get_or l.uses.items b []);
}
