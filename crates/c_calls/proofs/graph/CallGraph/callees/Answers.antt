use Rattle.std.proofs.Common.{◌∙◌, ap}
use Rattle.std.specs.List.{slice_get}
use Rattle.c_calls.proofs.Growth.{under_none, under_some}
use Rattle.c_calls.proofs.graph.CallGraph.callees.Goals as goal

pub returns-in-None : goal.returns-in-None
returns-in-None c = under_none c.args.self.now c.args.name (c.in-None.ensures.value ∙ ap (λ l. slice_get l c.args.name) c.self.view_is)

pub returns-in-Some : goal.returns-in-Some
returns-in-Some c = c.as_slice.ensures ∙ under_some c.in-Some.list.now c.args.self.now c.args.name (c.in-Some.ensures.value ∙ ap (λ l. slice_get l c.args.name) c.self.view_is)
