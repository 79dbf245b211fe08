use Rattle.std.proofs.Common.{◌∙◌, sym, refl, arith}
use Rattle.hard_code.proofs.Once.{once_then, once_else, once_all}
use Rattle.hard_code.proofs.returns.return_once.Goals as goal
use Rattle.hard_code.proofs.returns.return_once.Goals.{then-is_some, else-is_some}

pub loop-block-preserved : goal.loop-block-preserved
loop-block-preserved c = elim c.if-is_some.branch [
  | then-is_some w ↦ once_then c.args.blocks.now c.args.entries.now c.loop-block.last c.returns_at-entry.result c.if-is_some.last c.loop-block.block c.returns_at-entry.ensures (sym c.are_one.ensures ∙ c.if-are_one.false) (sym c.is_some.ensures ∙ w.if-is_some.true) w.last-is c.loop-block.invariant
  | else-is_some w ↦ once_else c.args.blocks.now c.args.entries.now c.loop-block.last c.returns_at-entry.result c.if-is_some.last c.loop-block.block c.returns_at-entry.ensures (sym c.is_some.ensures ∙ w.if-is_some.false) w.last-is c.loop-block.invariant
]

pub returns : goal.returns
returns c = (λ t. once_all c.args.blocks.now c.args.entries.now c.loop-block.last c.loop-block.block (omega arith) c.loop-block.invariant, λ o. refl)
