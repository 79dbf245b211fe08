use Rattle.eval_parts.proofs.Falls.{end_falls}
use Rattle.eval_parts.proofs.begins.place.Goals as goal

pub returns-in-Literal-clause-falls : goal.returns-in-Literal-clause-falls
returns-in-Literal-clause-falls c = end_falls c.args.e.now _ c.goes-in-Literal.result c.goes-in-Literal.ensures
