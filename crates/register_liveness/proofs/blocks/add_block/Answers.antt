use Rattle.std.proofs.Common.{◌+◌, [], ◌∷◌, subst, sym, arith}
use Rattle.std.specs.List.{Contains}
use Rattle.mid_blocks.specs.declared.code.MidEnd.{MidEnd}
use Rattle.register_liveness.specs.Uses.{successors}
use Rattle.register_liveness.specs.Blocks.{AreAdded}
use Rattle.register_liveness.proofs.Links.{added_two}
use Rattle.register_liveness.proofs.Valid.{on_ok}
use Rattle.register_liveness.proofs.Wanted.{contains_head, contains_tail}
use Rattle.register_liveness.proofs.blocks.add_block.Goals as goal

pub add-requires : goal.add-requires
add-requires c = c.requires.exist c.in-Jump.to (subst (λ (e : MidEnd). Contains (successors c.args.block e) c.in-Jump.to) (sym c.in-Jump.is) (contains_head c.in-Jump.to []))

pub add-requires-in-Branch : goal.add-requires-in-Branch
add-requires-in-Branch c = c.requires.exist (c.args.block + 1) (subst (λ (e : MidEnd). Contains (successors c.args.block e) (c.args.block + 1)) (sym c.in-Branch.is) (contains_head (c.args.block + 1) (c.in-Branch.to ∷ [])))

pub add-requires-in-Branch-2 : goal.add-requires-in-Branch-2
add-requires-in-Branch-2 c =
    let l = c.requires.exist c.in-Branch.to (subst (λ (e : MidEnd). Contains (successors c.args.block e) c.in-Branch.to) (sym c.in-Branch.is) (contains_tail (c.args.block + 1) (c.in-Branch.to ∷ []) c.in-Branch.to (contains_head c.in-Branch.to []))) in
    omega (arith, l, c.in_ok-add-in-Branch.ensures.same_length, c.args.lists.now.ok, c.add-in-Branch.new.lists.ok)

pub add-requires-in-Call : goal.add-requires-in-Call
add-requires-in-Call c = c.requires.exist (c.args.block + 1) (subst (λ (e : MidEnd). Contains (successors c.args.block e) (c.args.block + 1)) (sym c.in-Call.is) (contains_head (c.args.block + 1) []))

pub returns-in_ok-add-in-Branch : goal.returns-in_ok-add-in-Branch
returns-in_ok-add-in-Branch c =
    on_ok c.add-in-Branch-2.result _ _ (λ (h : AreAdded c.args.block (c.in-Branch.to ∷ []) c.add-in-Branch.new.lists.items c.add-in-Branch-2.new.lists.items).
    subst (λ (e : MidEnd). AreAdded c.args.block (successors c.args.block e) c.args.lists.now.items c.add-in-Branch-2.new.lists.items) (sym c.in-Branch.is)
    (added_two c.args.lists.now.items c.add-in-Branch.new.lists.items c.add-in-Branch-2.new.lists.items (c.args.block + 1) c.in-Branch.to c.args.block c.in_ok-add-in-Branch.ensures h)) c.add-in-Branch-2.ensures
