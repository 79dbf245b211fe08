use Rattle.std.proofs.Common.{◌≡◌, drop, map, ◌++◌, get_or}
use Rattle.block_relays.specs.Relays.{put_item}
use Rattle.edge_split.specs.Split.{relays_as}
use Rattle.edge_split.specs.Built.{plan_as}
use Rattle.edge_split.proofs.place.placed_items.Given as goal

abbrev pub invariant-loop-item : goal.invariant-loop-item
invariant-loop-item l = l.placed.items ++ map (put_item (λ n. get_or l.places n 0) l.block (relays_as (plan_as l.plan))) (drop l.item-index l.items) ≡ map (put_item (λ n. get_or l.places n 0) l.block (relays_as (plan_as l.plan))) l.items
