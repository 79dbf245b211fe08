use Rattle.std.proofs.Common.{ℕ, List, [], ◌∷◌, ◌++◌, length, subst, ap, ◌∙◌, arith, rules, replicate}
use Rattle.std.proofs.lemmas.List.{replicate_more}
use Rattle.mid_blocks.proofs.ValidLines.{block_there, few_blocks}
use Rattle.register_liveness.proofs.Valid.{successors_exist}
use Rattle.register_liveness.proofs.Links.{so_far_none, so_far_more, all_so_far}
use Rattle.register_liveness.specs.Uses.{successors}
use Rattle.std.specs.List.{Contains}
use Rattle.register_liveness.specs.Blocks.{AreAdded}
use Rattle.register_liveness.proofs.blocks.predecessors.Goals as goal

pub empty-preserved : goal.empty-preserved
empty-preserved c =
    let empty : List ℕ = [] in
    c.in_ok-push.ensures.items ∙ ap (λ (xs : List (List ℕ)). xs ++ c.new.result ∷ []) c.empty.invariant
    ∙ ap (λ (x : List ℕ). replicate c.empty.counter empty ++ x ∷ []) c.new.ensures ∙ replicate_more {X = List ℕ} c.empty.counter empty

pub loop-block-init : goal.loop-block-init
loop-block-init c = record {
  at = search rules;
  lists = so_far_none c.args.function.now c.empty.counter c.empty.lists.items (omega arith) c.empty.invariant;
}

pub add_block-requires-clause-next : goal.add_block-requires-clause-next
add_block-requires-clause-next c = omega (arith, few_blocks c.args.function.now c.requires, ap length c.as_slice-block-items.ensures)

pub add_block-requires-clause-exist : goal.add_block-requires-clause-exist
add_block-requires-clause-exist c = λ s h.
    let is = block_there c.args.function.now.blocks c.as_slice-block-items.result.now c.loop-block.block-index c.block-item.result c.as_slice-block-items.ensures c.loop-block-test.true c.block-item.is in
    omega (arith, successors_exist c.args.function.now c.requires c.loop-block.block-index c.block-item.result s is (subst (λ (k : ℕ). Contains (successors k c.block-item.result.end) s) c.loop-block.invariant.at h), c.loop-block.invariant.lists.one_each, c.loop-block.lists.ok)

pub overflow_add-number : goal.overflow_add-number
overflow_add-number c = omega (arith, few_blocks c.args.function.now c.requires, ap length c.as_slice-block-items.ensures)

pub loop-block-preserved : goal.loop-block-preserved
loop-block-preserved c =
    let is = block_there c.args.function.now.blocks c.as_slice-block-items.result.now c.loop-block.block-index c.block-item.result c.as_slice-block-items.ensures c.loop-block-test.true c.block-item.is in
    record {
      at = omega arith;
      lists = so_far_more c.args.function.now c.loop-block.block-index c.loop-block.lists.items c.add_block.new.lists.items c.block-item.result is c.loop-block.invariant.lists
          (subst (λ (k : ℕ). AreAdded k (successors k c.block-item.result.end) c.loop-block.lists.items c.add_block.new.lists.items) c.loop-block.invariant.at c.in_ok-add_block.ensures);
    }

pub returns : goal.returns
returns c = all_so_far c.args.function.now c.loop-block.block-index c.loop-block.lists.items (omega (arith, ap length c.as_slice-block-items.ensures)) c.loop-block.invariant.lists
