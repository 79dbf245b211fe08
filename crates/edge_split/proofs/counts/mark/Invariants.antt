use Rattle.std.proofs.Common.{◌≡◌, drop}
use Rattle.edge_split.specs.Built.{marked}
use Rattle.edge_split.proofs.counts.mark.Given as goal

abbrev pub invariant-loop-block : goal.invariant-loop-block
invariant-loop-block l = marked (drop l.block-index l.blocks) l.marks ≡ marked l.blocks l.initial.marks
