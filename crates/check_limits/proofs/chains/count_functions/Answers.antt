use Rattle.std.proofs.Common.{take, [], ◌∷◌, arith}
use Rattle.std.proofs.lemmas.List.{length-take}
use Rattle.check_limits.proofs.ChainWeights.{functions_fewer}
use Rattle.check_limits.proofs.chains.count_functions.Goals as goal

pub overflow_add-count : goal.overflow_add-count
overflow_add-count c =
    let a = functions_fewer (take c.loop-item.item-index c.args.items.now) in
    let b = functions_fewer (c.item-item.result ∷ []) in
    let e = length-take c.loop-item.item-index c.args.items.now in
    omega (arith, a, b, e, c.loop-item.invariant, c.count_function-count.ensures)
