use Rattle.std.proofs.Common.{◌∙◌, ap, get_or, false}
use Rattle.std.specs.List.{list_any}
use Rattle.c_syntax.specs.Graph.{defines}
use Rattle.c_costs.proofs.bodies.Bodies.has.Goals as goal

pub returns : goal.returns
returns c =
    c.holds_under.ensures ∙ ap (λ l. get_or l c.args.name false) c.as_slice.ensures ∙ c.self.invariant c.args.name ∙ ap (list_any (defines c.args.name)) c.self.view_is
