use Rattle.register_halves.specs.Fit.{AreOwn}
use Rattle.register_halves.proofs.fit.each_fits.Given as goal

abbrev pub invariant-loop-v : goal.invariant-loop-v
invariant-loop-v l = AreOwn l.function l.places l.v
