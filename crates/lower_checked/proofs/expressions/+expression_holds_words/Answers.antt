use Rattle.c_syntax.specs.Literals.{literals_are_words}
use Rattle.lower_checked.proofs.Parts.{to_the_end, call_literals}
use Rattle.lower_checked.proofs.expressions.+expression_holds_words.Goals as goal

pub returns-after-loop-arg : goal.returns-after-loop-arg
returns-after-loop-arg t c = call_literals c.args.e.now c.in-Call.name c.in-Call.args c.as_slice-arg-items.result.now c.in-Call.at c.in-Call.is c.as_slice-arg-items.ensures (to_the_end literals_are_words c.as_slice-arg-items.result.now c.loop-arg.arg-index c.loop-arg-test.false c.loop-arg.invariant)
