use Rattle.std.proofs.Common.{◌≡◌, drop, map, ◌++◌, get_or}
use Rattle.block_relays.specs.Renumber.{return_place}
use Rattle.edge_split.proofs.place.return_places.Given as goal

abbrev pub invariant-loop-block : goal.invariant-loop-block
invariant-loop-block l = l.placed.items ++ map (return_place (λ n. get_or l.places n 0)) (drop l.block-index l.blocks) ≡ map (return_place (λ n. get_or l.places n 0)) l.blocks
