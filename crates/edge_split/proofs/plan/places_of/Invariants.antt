use Rattle.std.proofs.Common.{◌≡◌, ◌≤◌, ◌*◌, drop, map, ◌++◌}
use Rattle.edge_split.specs.Built.{plan_as, places_by}
use Rattle.edge_split.proofs.plan.places_of.Given as goal

abbrev pub invariant-loop-plan : goal.invariant-loop-plan
invariant-loop-plan l = record {
  low : l.at ≤ 3 * l.plan-index;
  listed : l.places.items ++ places_by l.at (map plan_as (drop l.plan-index l.plans)) ≡ places_by 0 (map plan_as l.plans);
}
