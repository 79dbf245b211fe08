use Rattle.std.proofs.Common.{◌≡◌, drop, ◌++◌, get_or}
use Rattle.std.specs.Prelude.{None}
use Rattle.far_branches.specs.Widen.{far_blocks}
use Rattle.far_branches.proofs.far.put_blocks.Given as goal

abbrev pub invariant-loop-number : goal.invariant-loop-number
invariant-loop-number l = l.out.items ++ far_blocks (λ n. get_or l.places n 0) (λ b. get_or l.fars b None) l.number (drop l.number l.blocks) ≡ far_blocks (λ n. get_or l.places n 0) (λ b. get_or l.fars b None) 0 l.blocks
