use Rattle.register_halves.specs.Fit.{AreStarts}
use Rattle.register_halves.proofs.fit.starts.Given as goal

abbrev pub invariant-loop-v : goal.invariant-loop-v
invariant-loop-v l = AreStarts l.function l.places l.rows.items l.v
