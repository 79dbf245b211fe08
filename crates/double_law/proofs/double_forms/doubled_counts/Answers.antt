use Rattle.double_law.proofs.Counts.{counts_fit}
use Rattle.double_law.proofs.double_forms.doubled_counts.Goals as goal

pub returns : goal.returns
returns g mid places p d = counts_fit mid places p d
