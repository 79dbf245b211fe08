use Rattle.std.proofs.Common.{sym, ◌∙◌, subst}
use Rattle.check_rules.specs.Fault.{refuse}
use Rattle.check_rules.specs.declared.error.CheckKind.TheVariants.{NoBody}
use Rattle.check_scopes.specs.Gave.{Gave}
use Rattle.check_limits.proofs.WeightLists.{first_without}
use Rattle.check_limits.proofs.checks.bodies_are_there.Goals as goal

pub returns : goal.returns
returns c = subst (λ at. Gave c.refuse.result (refuse at NoBody)) (c.in_items.ensures ∙ sym (first_without c.args.items.now c.args.weights.now c.requires)) c.refuse.ensures
