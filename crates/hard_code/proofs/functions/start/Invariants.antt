use Rattle.std.proofs.Common.{◌≡◌, take, None}
use Rattle.std.specs.List.{fold}
use Rattle.hard_code.specs.Tested.{nearer}
use Rattle.hard_code.proofs.functions.start.Given as goal

abbrev pub invariant-loop-entry : goal.invariant-loop-entry
invariant-loop-entry l = l.start ≡ fold (λ s e. nearer l.block s e) None (take l.entry-index l.entries)
