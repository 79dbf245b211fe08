use Rattle.std.proofs.Common.{get_or, arith}
use Rattle.std.proofs.lemmas.List.{get_or_default}
use Rattle.c_syntax.proofs.Greatest.{greatest_more}
use Rattle.check_limits.proofs.chains.greatest_under.Goals as goal

pub loop-name-preserved : goal.loop-name-preserved
loop-name-preserved c =
    let names = c.args.names.now in
    let i = c.loop-name.name-index in
    let e = greatest_more (λ n. get_or c.args.numbers.now n 0) names i (get_or names i 0) c.loop-name-test.true (get_or_default names i 0 (get_or names i 0) c.loop-name-test.true) in
    omega (arith, e, c.loop-name.invariant, c.weight_under.ensures, c.max-most.ensures)
