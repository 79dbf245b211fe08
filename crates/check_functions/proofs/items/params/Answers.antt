use Rattle.std.proofs.Common.{length, refl}
use Rattle.check_rules.specs.Walk.{walk_param, walk_params}
use Rattle.check_scopes.proofs.Turns.{next_turn, count_turn}
use Rattle.check_functions.proofs.items.params.Goals as goal

pub loop-p-2-preserved : goal.loop-p-2-preserved
loop-p-2-preserved c =
    let push = c.in_ok-push-2.ensures.ok in
    record {
      room = count_turn c.loop-p-2.turned c.pop-in-loop-p-2.new.self c.in-Some-pop.p (length c.loop-p-2.scopes.decls) (length c.param.new.scopes.decls) _ c.loop-p-2.invariant.room c.in-Some-pop.ensures c.in_ok-param.ensures.grows;
      rest = rw push (next_turn (λ p w. walk_param p p.name w) walk_params (λ p ps w. refl) c.loop-p-2.turned c.pop-in-loop-p-2.new.self c.in-Some-pop.p c.in_ok-param.field-0 c.loop-p-2.scopes c.param.new.scopes c.loop-p-2.all _ c.loop-p-2.invariant.rest c.in-Some-pop.ensures c.in_ok-param.ensures.walk);
    }
