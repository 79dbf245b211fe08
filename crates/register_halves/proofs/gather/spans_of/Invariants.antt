use Rattle.register_halves.proofs.Gathered.{AreSpansBelow}
use Rattle.register_halves.proofs.gather.spans_of.Given as goal

abbrev pub invariant-loop-variable : goal.invariant-loop-variable
invariant-loop-variable l = AreSpansBelow l.function l.variable l.spans.items
