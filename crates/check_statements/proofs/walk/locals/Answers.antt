use Rattle.std.proofs.Common.{◌≡◌, ◌++◌, [], ◌∷◌, length, refl}
use Rattle.c_syntax.specs.Sizes.{local_nodes}
use Rattle.check_rules.specs.Walk.{walk_local, walk_locals}
use Rattle.check_scopes.proofs.Turns.{next_turn, room_turn}
use Rattle.check_statements.proofs.walk.locals.Goals as goal

pub loop-d-2-preserved : goal.loop-d-2-preserved
loop-d-2-preserved c =
    let push = c.in_ok-push-2.ensures.ok in
    record {
      room = room_turn local_nodes c.loop-d-2.turned c.pop-in-loop-d-2.new.self c.in-Some-pop.d (length c.loop-d-2.scopes.decls) (length c.local.new.scopes.decls) _ c.loop-d-2.invariant.room c.in-Some-pop.ensures c.in_ok-local.ensures.grows;
      rest = rw push (next_turn walk_local walk_locals (λ d ds w. refl) c.loop-d-2.turned c.pop-in-loop-d-2.new.self c.in-Some-pop.d c.in_ok-local.field-0 c.loop-d-2.scopes c.local.new.scopes c.loop-d-2.all _ c.loop-d-2.invariant.rest c.in-Some-pop.ensures c.in_ok-local.ensures.walk);
    }
