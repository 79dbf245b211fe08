use Rattle.std.proofs.Common.{◌∙◌, ap, arith, rules}
use Rattle.test_oracle.specs.Locals.{variables_of}
use Rattle.test_oracle.proofs.Variables.{padded}
use Rattle.test_oracle.proofs.locals.Locals.reach.Goals as goal

pub loop-at-preserved : goal.loop-at-preserved
loop-at-preserved c = record {
  long = grind (arith, c.in_ok-push.ensures.len, c.loop-at.invariant.long);
  same = ap variables_of c.in_ok-push.ensures.items ∙ padded c.loop-at.self-inside.words.items ∙ c.loop-at.invariant.same;
}
