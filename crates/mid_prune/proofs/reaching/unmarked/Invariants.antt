use Rattle.std.proofs.Common.{◌≡◌, length, false, map, take, replicate}
use Rattle.mid_prune.proofs.reaching.unmarked.Given as goal

abbrev pub invariant-loop-code : goal.invariant-loop-code
invariant-loop-code l = l.all.items ≡ map (λ code. replicate (length code.blocks) false) (take l.code-index l.code-items)
