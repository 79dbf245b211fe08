use Rattle.layout_facts.proofs.LayoutCountsWhole.{windows_are_few}
use Rattle.layout_facts.proofs.layout_counts.windows_are_few.Goals as goal

pub returns : goal.returns
returns c = windows_are_few
