use Rattle.std.proofs.Common.{◌≡◌, [], replicate}
use Rattle.duplicate_pass.proofs.tables.empty_lists.Given as goal

abbrev pub invariant-empty : goal.invariant-empty
invariant-empty l = l.lists.items ≡ replicate l.counter []
