use Rattle.std.proofs.Common.{◌≡◌, [], replicate}
use Rattle.signature_assign.proofs.edges.empty_lists.Given as goal

abbrev pub invariant-empty : goal.invariant-empty
invariant-empty l = l.lists.items ≡ replicate l.counter []
