use Rattle.lower_expressions.proofs.Written.{cut_written}
use Rattle.lower_expressions.proofs.builder.Builder.into_blocks.Goals as goal

pub returns : goal.returns
returns c = cut_written c.args.self
