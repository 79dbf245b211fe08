use Rattle.std.proofs.Common.{◌≡◌, ◌++◌, take}
use Rattle.std.specs.List.{flat_map}
use Rattle.c_syntax.specs.Graph.{label_calls}
use Rattle.c_calls.proofs.calls.add_labels.Given as goal

abbrev pub invariant-loop-label : goal.invariant-loop-label
invariant-loop-label l = l.calls ≡ l.fn.calls ++ flat_map label_calls (take l.label-index l.labels)
