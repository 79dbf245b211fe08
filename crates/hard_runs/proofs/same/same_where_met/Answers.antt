use Rattle.hard_runs.proofs.Meeting.{same_where_met}
use Rattle.hard_runs.proofs.same.same_where_met.Goals as goal

pub returns : goal.returns
returns g c = same_where_met _
