use Rattle.std.proofs.Common.{◌≡◌, take}
use Rattle.std.specs.List.{list_any}
use Rattle.c_syntax.specs.Graph.{with_bodies}
use Rattle.lower_functions.specs.Lowered.{is_marked}
use Rattle.lower_functions.proofs.whole.any_marked.Given as goal

abbrev pub invariant-loop-item : goal.invariant-loop-item
invariant-loop-item l = l.any ≡ list_any (λ f. is_marked l.marks f.name) (with_bodies (take l.item-index l.items))
