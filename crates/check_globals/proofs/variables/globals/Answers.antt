use Rattle.std.proofs.Common.{length, refl}
use Rattle.c_syntax.specs.Sizes.{global_nodes}
use Rattle.check_rules.specs.Walk.{walk_global, walk_globals}
use Rattle.check_scopes.proofs.Turns.{next_turn, room_turn}
use Rattle.check_globals.proofs.variables.globals.Goals as goal

pub loop-g-2-preserved : goal.loop-g-2-preserved
loop-g-2-preserved c =
    let push = c.in_ok-push-2.ensures.ok in
    record {
      room = room_turn global_nodes c.loop-g-2.turned c.pop-in-loop-g-2.new.self c.in-Some-pop.g (length c.loop-g-2.scopes.decls) (length c.global.new.scopes.decls) _ c.loop-g-2.invariant.room c.in-Some-pop.ensures c.in_ok-global.ensures.grows;
      rest = rw push (next_turn walk_global walk_globals (λ g gs w. refl) c.loop-g-2.turned c.pop-in-loop-g-2.new.self c.in-Some-pop.g c.in_ok-global.field-0 c.loop-g-2.scopes c.global.new.scopes c.loop-g-2.all _ c.loop-g-2.invariant.rest c.in-Some-pop.ensures c.in_ok-global.ensures.walk);
    }
