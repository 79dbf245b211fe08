use Rattle.std.proofs.Common.{◌≡◌, ℕ, ◌+◌, length, arith, sym, ap, ◌∙◌, subst}
use Rattle.mid_blocks.specs.Lines.{first_of}
use Rattle.register_liveness.specs.Met.{HasLines}
use Rattle.mid_blocks.proofs.Positions.{first_behind}
use Rattle.mid_blocks.proofs.ValidLines.{block_there, few_blocks, first_last}
use Rattle.register_liveness.proofs.extents.widen_lines.Goals as goal

pub overflow_add-number : goal.overflow_add-number
overflow_add-number c = omega (arith, few_blocks c.args.function.now c.requires.valid, ap length c.as_slice-block-items.ensures)

pub loop-block-preserved : goal.loop-block-preserved
loop-block-preserved c =
    let is = block_there c.args.function.now.blocks c.as_slice-block-items.result.now c.loop-block.block-index c.block-item.result c.as_slice-block-items.ensures c.loop-block-test.true c.block-item.is in
    let next : first_of c.args.function.now c.loop-block.number + length c.block-item.result.steps + 1 ≡ first_of c.args.function.now (c.loop-block.block-index + 1) =
    ap (λ (k : ℕ). first_of c.args.function.now k + length c.block-item.result.steps + 1) c.loop-block.invariant.at ∙ sym (first_behind c.args.function.now c.loop-block.block-index c.block-item.result is) in
    record {
      at = omega arith;
      met = c.in_ok-widen_block.ensures.widens.met;
      kept = λ v at h. c.in_ok-widen_block.ensures.widens.kept v at (c.loop-block.invariant.kept v at h);
      so_far = subst (HasLines c.args.function.now c.widen_block.new.extents.items) next c.in_ok-widen_block.ensures.has;
    }

pub returns-clause-has : goal.returns-clause-has
returns-clause-has c = λ at line l there.
    c.loop-block.invariant.so_far at line (omega (arith, first_last c.args.function.now c.loop-block.block-index (omega (arith, ap length c.as_slice-block-items.ensures)))) there
