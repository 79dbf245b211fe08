use Rattle.mid_prune.specs.Work.{Working}
use Rattle.mid_prune.proofs.Spreading.{weight}
use Rattle.mid_prune.proofs.reaching.spread.Given as goal

abbrev pub invariant-loop-spot : goal.invariant-loop-spot
invariant-loop-spot l = Working l.mid (record { marks = l.marks; waiting = l.waiting.items })

abbrev pub decreases-loop-spot : goal.decreases-loop-spot
decreases-loop-spot l = weight (record { marks = l.marks; waiting = l.waiting.items })
