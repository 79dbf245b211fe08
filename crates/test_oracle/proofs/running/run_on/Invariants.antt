use Rattle.test_oracle.specs.Standing.{Came}
use Rattle.test_oracle.proofs.running.run_on.Given as goal

abbrev pub invariant-steps : goal.invariant-steps
invariant-steps l = Came l.program l.input l.counter l.output l.runner
