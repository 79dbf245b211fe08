use Rattle.mid_prune.proofs.Trimming.{stays}
use Rattle.mid_prune.proofs.lowering_trim.trimmed_stays.Goals as goal

pub returns : goal.returns
returns c = stays
