use Rattle.std.proofs.Common.{◌≡◌, ℕ, ◌<◌, ◌+◌, ◌++◌, List, [], ◌∷◌, length, get_or, arith, ap, sym, ◌∙◌, subst, Some, length-append}
use Rattle.mid_blocks.specs.declared.code.MidBlock.{MidBlock}
use Rattle.mid_blocks.specs.Lines.{block_lines}
use Rattle.register_liveness.specs.declared.uses.FirstUse.{FirstUse}
use Rattle.register_liveness.specs.declared.uses.FirstUse.TheVariants.{Untouched}
use Rattle.register_liveness.specs.Uses.{first_use, IsRow}
use Rattle.mid_blocks.proofs.ValidLines.{block_variables, block_there}
use Rattle.register_liveness.proofs.Valid.{push_each}
use Rattle.register_liveness.proofs.uses.all_uses.Goals as goal

pub block_uses-requires : goal.block_uses-requires
block_uses-requires c = block_variables c.args.function.now c.requires c.loop-block.block-index c.block-item.result
    (block_there c.args.function.now.blocks c.as_slice-block-items.result.now c.loop-block.block-index c.block-item.result c.as_slice-block-items.ensures c.loop-block-test.true c.block-item.is)

pub loop-block-preserved : goal.loop-block-preserved
loop-block-preserved c =
    let is = block_there c.args.function.now.blocks c.as_slice-block-items.result.now c.loop-block.block-index c.block-item.result c.as_slice-block-items.ensures c.loop-block-test.true c.block-item.is in
    let is_row : IsRow c.args.function.now c.loop-block.block-index c.from_vec.result = record {
      one_each = ap length c.from_vec.ensures ∙ c.in_ok-block_uses.ensures.len;
      each = λ block h v l.
          let same : Some c.block-item.result ≡ Some block = sym is ∙ h in
          let e : c.block-item.result ≡ block = cc in
          ap (λ (r : List FirstUse). get_or r v Untouched) c.from_vec.ensures ∙ c.in_ok-block_uses.ensures.each v l ∙ ap (λ (b : MidBlock). first_use v (block_lines b)) e;
    } in
    let items : c.push.new.self.items ≡ c.loop-block.uses.items ++ c.from_vec.result ∷ [] = c.in_ok-push.ensures.items in
    record {
      one_each = omega (arith, ap length items, length-append c.loop-block.uses.items (c.from_vec.result ∷ []), c.loop-block.invariant.one_each);
      rows = subst (λ (rows : List (List FirstUse)). (b : ℕ) → b < c.loop-block.block-index + 1 → IsRow c.args.function.now b (get_or rows b [])) (sym items)
          (push_each (IsRow c.args.function.now) c.loop-block.uses.items c.from_vec.result [] c.loop-block.block-index c.loop-block.invariant.one_each c.loop-block.invariant.rows is_row);
    }

pub returns : goal.returns
returns c =
    let all : length c.args.function.now.blocks ≡ c.loop-block.block-index = omega (arith, ap length c.as_slice-block-items.ensures) in
    record { one_each = c.loop-block.invariant.one_each ∙ sym all; rows = λ b l. c.loop-block.invariant.rows b (omega arith) }
