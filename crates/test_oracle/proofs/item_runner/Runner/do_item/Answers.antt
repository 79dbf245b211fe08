use Rattle.std.proofs.Common.{ap, ◌∙◌}
use Rattle.mips_machine.specs.View.{state_of}
use Rattle.test_oracle.proofs.Steps.{ends_item, goes_item}
use Rattle.test_oracle.proofs.item_runner.Runner.do_item.Goals as goal

pub returns-then-is_some : goal.returns-then-is_some
returns-then-is_some c = λ s st.
    ends_item c.args.program.now c.args.self.now _ s c.args.item _ _ _ _ st c.act-act.ensures.is c.perform-word.ensures c.is_some.ensures c.if-is_some.true

pub returns : goal.returns
returns c = λ s st.
    goes_item c.args.program.now c.args.self.now _ _ s c.args.item _ _ _ _ st c.act-act.ensures.is c.perform-word.ensures c.is_some.ensures c.if-is_some.false
    (ap state_of c.arrive.ensures.machine ∙ c.rest.ensures) c.way_of-own.ensures c.arrive.ensures.spot
