use Rattle.check_scopes.proofs.Places.{places_pushed}
use Rattle.check_scopes.proofs.scope.Scope.add.Goals as goal

pub invariant_of-self-in-Ok : goal.invariant_of-self-in-Ok
invariant_of-self-in-Ok c = places_pushed c.self.inside.places c.insert.new.self c.self.inside.bindings c.push.new.self c.args.binding c.len-place.result c.self.invariant c.len-place.ensures c.in_ok-push.ensures.ok c.in-Ok.ensures.updates.0
