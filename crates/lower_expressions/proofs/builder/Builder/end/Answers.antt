use Rattle.std.proofs.Common.{refl, ◌∙◌}
use Rattle.lower_expressions.proofs.Written.{written_end}
use Rattle.lower_expressions.proofs.builder.Builder.end.Goals as goal

pub returns : goal.returns
returns c = written_end c.args.self.now _ (record { steps = c.replace-steps.result; end = c.args.end }) c.args.end c.replace-steps.ensures.value refl c.in_ok-push.ensures.ok (c.replace-steps.ensures.after ∙ c.new.ensures)
