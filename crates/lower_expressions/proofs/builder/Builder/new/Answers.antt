use Rattle.lower_expressions.proofs.Written.{written_none}
use Rattle.lower_expressions.proofs.builder.Builder.new.Goals as goal

pub returns : goal.returns
returns c = written_none _ c.new.ensures c.new-2.ensures
