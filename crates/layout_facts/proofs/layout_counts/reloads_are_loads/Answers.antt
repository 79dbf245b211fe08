use Rattle.layout_facts.proofs.LayoutCountsWhole.{reloads_are_loads}
use Rattle.layout_facts.proofs.layout_counts.reloads_are_loads.Goals as goal

pub returns : goal.returns
returns c = reloads_are_loads
