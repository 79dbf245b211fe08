use Rattle.lower_calls_law.proofs.Callees.{main_alone}
use Rattle.lower_calls_law.proofs.lowering_calls.only_main_where_alone.Goals as goal

pub returns : goal.returns
returns c = main_alone
