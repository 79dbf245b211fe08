use Rattle.std.proofs.Common.{◌≡◌, ap, sym, ◌∙◌, append-nil, List, ◌++◌, slice_get}
use Rattle.std.specs.Prelude.{Option, None}
use Rattle.hard_items.specs.declared.code.Item.{Item}
use Rattle.block_schedule.specs.declared.unit.Whole.{Whole}
use Rattle.block_schedule.specs.Scheduling as scheduling
use Rattle.block_schedule.proofs.Turning.{none_there}
use Rattle.block_schedule.proofs.turns.put_at.Goals as goal

nothing_put : (xs : List Item) (o : Option Whole) → o ≡ None → xs ≡ xs ++ scheduling.optional o
nothing_put xs o e = sym (ap (λ (p : Option Whole). xs ++ scheduling.optional p) e ∙ append-nil xs)

pub returns-in-None : goal.returns-in-None
returns-in-None c = nothing_put c.args.out.now.items (slice_get c.args.units.now c.args.at) (none_there c.args.units.now c.args.at c.in-None.ensures.lookup.3)
