use Rattle.std.proofs.Common.{refl}
use Rattle.lower_expressions.proofs.Written.{written_step}
use Rattle.lower_expressions.proofs.builder.Builder.step.Goals as goal

pub returns : goal.returns
returns c = written_step c.args.self.now _ c.args.step refl c.in_ok-push.ensures.ok
