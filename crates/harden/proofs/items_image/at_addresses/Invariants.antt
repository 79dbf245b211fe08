use Rattle.std.proofs.Common.{◌≡◌, ◌++◌, drop}
use Rattle.harden.specs.HardenChainSteps.{addressed}
use Rattle.harden.proofs.items_image.at_addresses.Given as goal

abbrev pub invariant-loop-from : goal.invariant-loop-from
invariant-loop-from l = l.list.items ++ addressed l.starts (drop l.from-index l.pairs) ≡ addressed l.starts l.pairs
