use Rattle.std.proofs.Common.{◌≡◌, drop}
use Rattle.edge_split.specs.Split.{calls}
use Rattle.edge_split.proofs.counts.calls.Given as goal

abbrev pub invariant-loop-item : goal.invariant-loop-item
invariant-loop-item l = calls (drop l.item-index l.items) ≡ calls l.items
