use Rattle.lower_calls_law.proofs.Callees.{are_callees}
use Rattle.lower_calls_law.proofs.lowering_calls.calls_are_callees.Goals as goal

pub returns : goal.returns
returns c = are_callees
