use Rattle.std.proofs.Common.{ℕ, Bool, length, refl}
use Rattle.std.specs.BTreeSet.{contains}
use Rattle.std.specs.Ordering.{nat_cmp}
use Rattle.c_syntax.specs.Sizes.{item_nodes}
use Rattle.check_rules.specs.Walk.{walk_item, walk_items}
use Rattle.check_scopes.proofs.Turns.{next_turn, room_turn}
use Rattle.c_check.proofs.external.items.Goals as goal

pub loop-i-2-preserved : goal.loop-i-2-preserved
loop-i-2-preserved c =
    let push = c.in_ok-push-2.ensures.ok in
    let has_body : ℕ → Bool = λ name. contains nat_cmp c.args.bodies.now name in
    record {
      room = room_turn item_nodes c.loop-i-2.turned c.pop-in-loop-i-2.new.self c.in-Some-pop.i (length c.loop-i-2.scopes.decls) (length c.item.new.scopes.decls) _ c.loop-i-2.invariant.room c.in-Some-pop.ensures c.in_ok-item.ensures.grows;
      rest = rw push (next_turn (walk_item has_body) (walk_items has_body) (λ i is w. refl) c.loop-i-2.turned c.pop-in-loop-i-2.new.self c.in-Some-pop.i c.in_ok-item.field-0 c.loop-i-2.scopes c.item.new.scopes c.loop-i-2.all _ c.loop-i-2.invariant.rest c.in-Some-pop.ensures c.in_ok-item.ensures.walk);
    }
