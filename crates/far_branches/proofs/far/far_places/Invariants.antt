use Rattle.std.proofs.Common.{◌≡◌, ◌≤◌, ◌*◌, drop, ◌++◌}
use Rattle.far_branches.specs.Far.{places_by}
use Rattle.far_branches.proofs.far.far_places.Given as goal

abbrev pub invariant-loop-far : goal.invariant-loop-far
invariant-loop-far l = record {
  low : l.at ≤ 2 * l.far-index;
  listed : l.places.items ++ places_by l.at (drop l.far-index l.fars) ≡ places_by 0 l.fars;
}
