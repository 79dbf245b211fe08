use Rattle.std.proofs.Common.{◌≡◌, drop}
use Rattle.edge_split.specs.Split.{returns}
use Rattle.edge_split.proofs.counts.returns.Given as goal

abbrev pub invariant-loop-item : goal.invariant-loop-item
invariant-loop-item l = returns (drop l.item-index l.items) ≡ returns l.items
