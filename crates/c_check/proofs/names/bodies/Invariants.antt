use Rattle.std.proofs.Common.{◌≡◌, ℕ, take}
use Rattle.std.specs.BTreeSet.{contains}
use Rattle.std.specs.List.{list_any}
use Rattle.std.specs.Ordering.{nat_cmp}
use Rattle.c_syntax.specs.Graph.{defines}
use Rattle.c_check.proofs.names.bodies.Given as goal

abbrev pub invariant-loop-item : goal.invariant-loop-item
invariant-loop-item l = (name : ℕ) → contains nat_cmp l.names name ≡ list_any (defines name) (take l.item-index l.items)
