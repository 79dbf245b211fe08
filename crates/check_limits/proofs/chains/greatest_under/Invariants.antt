use Rattle.std.proofs.Common.{◌≡◌, map, get_or, take}
use Rattle.c_syntax.specs.Sizes.{greatest}
use Rattle.check_limits.proofs.chains.greatest_under.Given as goal

abbrev pub invariant-loop-name : goal.invariant-loop-name
invariant-loop-name l = l.most ≡ greatest (map (λ n. get_or l.numbers n 0) (take l.name-index l.names))
