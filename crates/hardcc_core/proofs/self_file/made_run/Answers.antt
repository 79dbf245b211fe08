use Rattle.std.proofs.Common.{◌∙◌, subst, List, ℕ, IfOk}
use Rattle.hardcc_core.specs.SelfRuns.{IsSelfRun}
use Rattle.hardcc_core.proofs.self_file.made_run.Goals as goal

pub returns-in-Ok-clause-ok : goal.returns-in-Ok-clause-ok
returns-in-Ok-clause-ok c = subst (λ (text : List ℕ). IfOk c.source_run.result (λ made. IsSelfRun text c.args.words.now.steps made.0.items made.1)) (c.deref.ensures.value ∙ c.in-Ok.ensures)
    c.source_run.ensures.ok
