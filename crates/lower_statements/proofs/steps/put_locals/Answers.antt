use Rattle.std.proofs.Common.{arith}
use Rattle.c_syntax.specs.Sizes.{local_nodes}
use Rattle.lower_statements.proofs.Lists.{item_most}
use Rattle.lower_statements.proofs.steps.put_locals.Goals as goal

pub put_local-requires-clause-room : goal.put_local-requires-clause-room
put_local-requires-clause-room c =
    let h = item_most local_nodes c.args.locals.now c.loop-d.d-index c.d-item.result (omega (arith, c.loop-d-test.true)) c.d-item.is in
    omega (arith, h, c.requires.room)
