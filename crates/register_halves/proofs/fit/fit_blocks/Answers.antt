use Rattle.std.proofs.Common.{◌≡◌, length, arith, ap, inl, inr}
use Rattle.std.proofs.lemmas.Bool.{cases_lt}
use Rattle.mid_blocks.specs.Lines.{first_of}
use Rattle.mid_blocks.proofs.Positions.{first_behind}
use Rattle.mid_blocks.proofs.ValidLines.{block_there, few_blocks, first_last}
use Rattle.register_halves.proofs.fit.fit_blocks.Goals as goal

pub fit_block-requires-clause-small : goal.fit_block-requires-clause-small
fit_block-requires-clause-small c = omega (arith, few_blocks c.args.function.now c.requires.valid, ap length c.as_slice-block-items.ensures)

pub overflow_add-number : goal.overflow_add-number
overflow_add-number c = omega (arith, few_blocks c.args.function.now c.requires.valid, ap length c.as_slice-block-items.ensures)

pub loop-block-preserved : goal.loop-block-preserved
loop-block-preserved c =
    let is = block_there c.args.function.now.blocks c.as_slice-block-items.result.now c.loop-block.block-index c.block-item.result c.as_slice-block-items.ensures c.loop-block-test.true c.block-item.is in
    let behind = first_behind c.args.function.now c.loop-block.block-index c.block-item.result is in
    let same : first_of c.args.function.now c.loop-block.number ≡ first_of c.args.function.now c.loop-block.block-index = ap (first_of c.args.function.now) c.loop-block.invariant.at in
    record {
      at = omega arith;
      fits = λ at lo hi. elim (cases_lt at (first_of c.args.function.now c.loop-block.block-index)) [
        | inl l ↦ c.loop-block.invariant.fits at lo l
        | inr g ↦ c.in_ok-fit_block.ensures.yes c.if-not-branch.false at (omega (arith, same)) (omega (arith, same, behind))
      ];
    }

pub returns-clause-yes : goal.returns-clause-yes
returns-clause-yes c = λ _ at lo hi. c.loop-block.invariant.fits at lo (omega (arith, first_last c.args.function.now c.loop-block.block-index (omega (arith, ap length c.as_slice-block-items.ensures))))
