use Rattle.std.proofs.Common.{◌≡◌, ℕ, ◌+◌, ◌<◌, List, [], ◌∷◌, ◌++◌, get_or, length, subst, sym, ap, ◌∙◌, arith, length-append}
use Rattle.mid_blocks.specs.Lines.{first_of}
use Rattle.mid_blocks.proofs.Positions.{first_behind}
use Rattle.mid_blocks.proofs.ValidLines.{block_there, block_fits}
use Rattle.register_liveness.proofs.Valid.{push_each}
use Rattle.register_liveness.proofs.blocks.first_positions.Goals as goal

pub overflow_cast-at : goal.overflow_cast-at
overflow_cast-at c = omega (arith, block_fits c.args.function.now c.requires c.loop-block.block-index c.block-item.result (block_there c.args.function.now.blocks c.as_slice-block-items.result.now c.loop-block.block-index c.block-item.result c.as_slice-block-items.ensures c.loop-block-test.true c.block-item.is))

pub overflow_add-at : goal.overflow_add-at
overflow_add-at c = omega (arith, block_fits c.args.function.now c.requires c.loop-block.block-index c.block-item.result (block_there c.args.function.now.blocks c.as_slice-block-items.result.now c.loop-block.block-index c.block-item.result c.as_slice-block-items.ensures c.loop-block-test.true c.block-item.is))

pub overflow_add-at-in-loop-block : goal.overflow_add-at-in-loop-block
overflow_add-at-in-loop-block c = omega (arith, block_fits c.args.function.now c.requires c.loop-block.block-index c.block-item.result (block_there c.args.function.now.blocks c.as_slice-block-items.result.now c.loop-block.block-index c.block-item.result c.as_slice-block-items.ensures c.loop-block-test.true c.block-item.is))

pub loop-block-preserved : goal.loop-block-preserved
loop-block-preserved c =
    let items : c.push.new.self.items ≡ c.loop-block.firsts.items ++ c.loop-block.at ∷ [] = c.in_ok-push.ensures.items in
    record {
      one_each = omega (arith, ap length items, length-append c.loop-block.firsts.items (c.loop-block.at ∷ []), c.loop-block.invariant.one_each);
      each = subst (λ (xs : List ℕ). (b : ℕ) → b < c.loop-block.block-index + 1 → get_or xs b 0 ≡ first_of c.args.function.now b) (sym items)
          (push_each (λ b x. x ≡ first_of c.args.function.now b) c.loop-block.firsts.items c.loop-block.at 0 c.loop-block.block-index c.loop-block.invariant.one_each c.loop-block.invariant.each c.loop-block.invariant.here);
      here = omega (arith, first_behind c.args.function.now c.loop-block.block-index c.block-item.result (block_there c.args.function.now.blocks c.as_slice-block-items.result.now c.loop-block.block-index c.block-item.result c.as_slice-block-items.ensures c.loop-block-test.true c.block-item.is));
    }

pub returns : goal.returns
returns c =
    let all : length c.args.function.now.blocks ≡ c.loop-block.block-index = omega (arith, ap length c.as_slice-block-items.ensures) in
    record { one_each = c.loop-block.invariant.one_each ∙ sym all; each = λ b l. c.loop-block.invariant.each b (omega arith) }
