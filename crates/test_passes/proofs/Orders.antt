-- The orders, computed.
use Rattle.std.proofs.Common.{refl}
use Rattle.test_passes.specs.Orders.{TakesTurns}

pub takes_turns : TakesTurns
takes_turns = record { in_turn = refl; the_rest = refl; products = refl; loads = refl }
