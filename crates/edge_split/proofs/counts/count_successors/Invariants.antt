use Rattle.std.proofs.Common.{◌≡◌, drop}
use Rattle.edge_split.specs.Built.{counted}
use Rattle.edge_split.proofs.counts.count_successors.Given as goal

abbrev pub invariant-loop-successor : goal.invariant-loop-successor
invariant-loop-successor l = counted (drop l.successor-index l.successors) l.counts ≡ counted l.successors l.initial.counts
