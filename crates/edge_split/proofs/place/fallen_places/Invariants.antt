use Rattle.std.proofs.Common.{◌≡◌, drop, map, ◌++◌, get_or}
use Rattle.edge_split.specs.Split.{fallen}
use Rattle.edge_split.proofs.place.fallen_places.Given as goal

abbrev pub invariant-loop-successor : goal.invariant-loop-successor
invariant-loop-successor l = l.placed.items ++ map (fallen (λ n. get_or l.places n 0) l.block) (drop l.successor-index l.blocks) ≡ map (fallen (λ n. get_or l.places n 0) l.block) l.blocks
