use Rattle.std.proofs.Common.{ap, sym, ◌∙◌}
use Rattle.std.specs.Option.{option_copied}
use Rattle.mid_blocks.specs.declared.places.Place.TheVariants.{Slot}
use Rattle.duplicate_pass.proofs.Absent.{absent}
use Rattle.duplicate_pass.proofs.places.place_of.Goals as goal

pub returns-in-None : goal.returns-in-None
returns-in-None c = absent c.args.places.now.list c.args.variable (Slot 0) (sym c.get.ensures ∙ ap option_copied c.in-None.is)
