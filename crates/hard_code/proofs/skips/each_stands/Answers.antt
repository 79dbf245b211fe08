use Rattle.std.proofs.Common.{◌≡◌, ◌∙◌, sym, true, below_more}
use Rattle.hard_code.specs.Tested.{place_fits}
use Rattle.hard_code.proofs.skips.each_stands.Goals as goal

pub loop-place-preserved : goal.loop-place-preserved
loop-place-preserved c = below_more (λ k. place_fits c.args.items.now k ≡ true) c.loop-place.place c.loop-place.invariant (sym c.place_fits.ensures ∙ c.if-not-place_fits.false)
