use Rattle.std.proofs.Common.{◌≡◌, drop}
use Rattle.edge_split.specs.Built.{all_marked}
use Rattle.edge_split.proofs.counts.mark_all.Given as goal

abbrev pub invariant-loop-block : goal.invariant-loop-block
invariant-loop-block l = all_marked (drop l.block-index l.blocks) l.marks ≡ all_marked l.blocks l.initial.marks
