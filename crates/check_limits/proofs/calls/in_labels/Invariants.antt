use Rattle.std.proofs.Common.{◌≡◌, map, take}
use Rattle.check_rules.specs.Limits.{joined, label_calls}
use Rattle.check_limits.specs.Tables.{first_lacking}
use Rattle.check_limits.proofs.calls.in_labels.Given as goal

abbrev pub invariant-loop-label : goal.invariant-loop-label
invariant-loop-label l = l.first ≡ first_lacking l.weights (joined (map label_calls (take l.label-index l.labels)))
