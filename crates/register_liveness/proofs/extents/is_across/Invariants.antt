use Rattle.std.proofs.Common.{◌≡◌, ℕ, ◌+◌, ◌<◌, get_or}
use Rattle.register_liveness.specs.Met.{CallBefore}
use Rattle.register_liveness.proofs.extents.is_across.Given as goal

abbrev pub invariant-loop-b : goal.invariant-loop-b
invariant-loop-b l = (k : ℕ) (c : CallBefore l.function l.v) → k < l.b-index → c.number + 1 ≡ get_or l.blocks k 0 → ⊥
