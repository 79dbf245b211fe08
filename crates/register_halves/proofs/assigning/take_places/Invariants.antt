use Rattle.std.proofs.Common.{length}
use Rattle.register_halves.proofs.Taking.{TakenSoFar}
use Rattle.register_halves.proofs.assigning.take_places.Given as goal

abbrev pub invariant-loop-span : goal.invariant-loop-span
invariant-loop-span l = TakenSoFar l.function (length l.initial.free.items) l.locals l.places.items l.free.items l.span-index
