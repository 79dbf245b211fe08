use Rattle.std.proofs.Common.{length}
use Rattle.hard_code.specs.Tested.{goes_well, leave_at, HoldsBelow}
use Rattle.hard_code.proofs.functions.each_goes_well.Given as goal

abbrev pub invariant-loop-block : goal.invariant-loop-block
invariant-loop-block l = HoldsBelow (λ b. goes_well (length l.blocks) l.entries b (leave_at l.blocks b)) l.block
