use Rattle.std.proofs.Common.{refl}
use Rattle.check_rules.specs.Walk.{walk_label, walk_labels}
use Rattle.check_scopes.proofs.Turns.{next_turn}
use Rattle.check_statements.proofs.labels.each_label.Goals as goal

pub loop-l-2-preserved : goal.loop-l-2-preserved
loop-l-2-preserved c =
    let push = c.in_ok-push-2.ensures.ok in
    rw push (next_turn (λ l labels. walk_label l labels c.args.scopes.now) (λ ls labels. walk_labels ls labels c.args.scopes.now) (λ l ls labels. refl) c.loop-l-2.turned c.pop-in-loop-l-2.new.self c.in-Some-pop.l c.in_ok-label.field-0 c.loop-l-2.labels c.label.new.labels c.loop-l-2.all _ c.loop-l-2.invariant c.in-Some-pop.ensures c.in_ok-label.ensures)
