use Rattle.eval_parts.proofs.Steps.{begins_turns}
use Rattle.eval_parts.proofs.begins.turns.Goals as goal

pub returns-clause-begins : goal.returns-clause-begins
returns-clause-begins c = begins_turns c.args.left c.args.turn c.tested.result c.if-left-eq0.false c.tested.ensures.begins
