use Rattle.std.proofs.Common.{◌≡◌, [], replicate}
use Rattle.alias_lister.proofs.groups.empty_groups.Given as goal

abbrev pub invariant-empty : goal.invariant-empty
invariant-empty l = l.groups.items ≡ replicate l.counter []
