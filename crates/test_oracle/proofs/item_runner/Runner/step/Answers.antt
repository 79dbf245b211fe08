use Rattle.std.proofs.Common.{refl, sym}
use Rattle.test_oracle.specs.Standing.{Standing}
use Rattle.test_oracle.proofs.Steps.{over_test, open_test, empty_step, does_step}
use Rattle.test_oracle.proofs.item_runner.Runner.step.Goals as goal

pub returns-then-is_some : goal.returns-then-is_some
returns-then-is_some c = λ s st. over_test c.args.program.now c.args.self.now s _ c.is_some.ensures c.if-is_some.true st

pub returns-in-None : goal.returns-in-None
returns-in-None c = λ s st.
    let on : Standing c.args.program.now c.args.self.now s = open_test c.args.program.now c.args.self.now s _ c.is_some.ensures c.if-is_some.false st in
    empty_step c.args.program.now c.args.self.now _ s on (sym c.in-None.ensures) refl

pub returns-in-Some : goal.returns-in-Some
returns-in-Some c = λ s st.
    let on : Standing c.args.program.now c.args.self.now s = open_test c.args.program.now c.args.self.now s _ c.is_some.ensures c.if-is_some.false st in
    does_step c.args.program.now c.args.self.now _ _ s c.in-Some.item on (sym c.in-Some.ensures) (c.do_item.ensures s on)
