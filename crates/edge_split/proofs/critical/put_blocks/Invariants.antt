use Rattle.std.proofs.Common.{◌≡◌, drop, ◌++◌, get_or}
use Rattle.edge_split.specs.declared.plan.Plan.TheVariants as made
use Rattle.edge_split.specs.Split.{split_blocks}
use Rattle.edge_split.specs.Built.{plan_as}
use Rattle.edge_split.proofs.critical.put_blocks.Given as goal

abbrev pub invariant-loop-number : goal.invariant-loop-number
invariant-loop-number l = l.out.items ++ split_blocks (λ n. get_or l.places n 0) (λ b. plan_as (get_or l.plans b made.Keep)) l.number (drop l.number l.blocks) ≡ split_blocks (λ n. get_or l.places n 0) (λ b. plan_as (get_or l.plans b made.Keep)) 0 l.blocks
