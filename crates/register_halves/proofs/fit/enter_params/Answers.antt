use Rattle.register_halves.proofs.Fitting.{adds_below_more, clash_params}
use Rattle.register_halves.proofs.fit.enter_params.Goals as goal

pub returns-then-not-enter-clause-no : goal.returns-then-not-enter-clause-no
returns-then-not-enter-clause-no c = λ _. clash_params c.args.places.now c.args.function.now c.args.now.now.items c.loop-v.now.items c.loop-v.v c.loop-v-test.true c.loop-v.invariant (c.enter.ensures.no c.if-not-enter.true)

pub loop-v-preserved : goal.loop-v-preserved
loop-v-preserved c = adds_below_more c.args.places.now c.args.now.now.items c.loop-v.now.items c.enter.new.now.items c.loop-v.v c.loop-v.invariant (c.enter.ensures.yes c.if-not-enter.false)
