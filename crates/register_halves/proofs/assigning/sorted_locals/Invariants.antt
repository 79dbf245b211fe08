use Rattle.register_halves.proofs.Starting.{LocalsSoFar}
use Rattle.register_halves.proofs.assigning.sorted_locals.Given as goal

abbrev pub invariant-loop-span : goal.invariant-loop-span
invariant-loop-span l = LocalsSoFar l.function l.span-items l.span-index l.locals.items
