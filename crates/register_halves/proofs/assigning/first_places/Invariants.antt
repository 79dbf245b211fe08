use Rattle.register_halves.proofs.Starting.{StartsSoFar}
use Rattle.register_halves.proofs.assigning.first_places.Given as goal

abbrev pub invariant-loop-v : goal.invariant-loop-v
invariant-loop-v l = StartsSoFar l.function l.v l.places.items
