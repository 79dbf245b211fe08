use Rattle.std.proofs.Common.{length}
use Rattle.std.specs.List.{AllWithin}
use Rattle.hard_code.specs.Tested.{ItemsFit}
use Rattle.hard_code.proofs.programs.each_fits.Given as goal

abbrev pub invariant-loop-block : goal.invariant-loop-block
invariant-loop-block l = AllWithin (λ b. ItemsFit (length l.blocks) l.entries b.items) l.blocks 0 l.block-index
