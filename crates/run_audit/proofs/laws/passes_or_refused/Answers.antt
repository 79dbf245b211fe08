use Rattle.run_audit.proofs.Decided.{passes_or_refused}
use Rattle.run_audit.proofs.laws.passes_or_refused.Goals as goal

pub returns : goal.returns
returns c = passes_or_refused c.end_stays.ensures c.typed_or_bad.ensures
