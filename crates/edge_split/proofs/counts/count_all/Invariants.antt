use Rattle.std.proofs.Common.{◌≡◌, drop}
use Rattle.edge_split.specs.Built.{all_counted}
use Rattle.edge_split.proofs.counts.count_all.Given as goal

abbrev pub invariant-loop-block : goal.invariant-loop-block
invariant-loop-block l = all_counted (drop l.block-index l.blocks) l.counts ≡ all_counted l.blocks l.initial.counts
