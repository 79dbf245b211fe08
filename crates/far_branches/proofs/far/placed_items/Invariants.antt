use Rattle.std.proofs.Common.{◌≡◌, drop, map, ◌++◌, get_or}
use Rattle.block_relays.specs.Relays.{put_item}
use Rattle.far_branches.specs.Widen.{far_as}
use Rattle.far_branches.proofs.far.placed_items.Given as goal

abbrev pub invariant-loop-item : goal.invariant-loop-item
invariant-loop-item l = l.placed.items ++ map (put_item (λ n. get_or l.places n 0) l.block (far_as l.far)) (drop l.item-index l.items) ≡ map (put_item (λ n. get_or l.places n 0) l.block (far_as l.far)) l.items
