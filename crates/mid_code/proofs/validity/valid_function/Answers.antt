use Rattle.std.proofs.Common.{◌∙◌, sym, subst, List, length}
use Rattle.mid_blocks.specs.declared.code.MidBlock.{MidBlock}
use Rattle.mid_blocks.specs.Tested.{HoldsBelow, is_entered}
use Rattle.std.proofs.lemmas.Bool.{both_ways}
use Rattle.mid_blocks.proofs.Deciding.{valid_from, shape_from, entered_from}
use Rattle.mid_code.proofs.validity.valid_function.Goals as goal

pub returns-then-shape_fits : goal.returns-then-shape_fits
returns-then-shape_fits c =
    let P : List MidBlock → Type 0 = λ blocks. HoldsBelow (λ x. is_entered blocks x) (length blocks) in (
      λ t. valid_from c.args.function.now (sym c.shape_fits.ensures ∙ c.if-shape_fits.true) (subst P c.as_slice-blocks.ensures (c.entries_fit.ensures.0 t)),
      λ valid. c.entries_fit.ensures.1 (subst P (sym c.as_slice-blocks.ensures) (entered_from c.args.function.now valid)),
    )

pub returns-else-shape_fits : goal.returns-else-shape_fits
returns-else-shape_fits c = (
  λ t. absurd (both_ways c.shape_fits.result c.if-shape_fits.false t),
  λ valid. absurd (both_ways c.shape_fits.result c.if-shape_fits.false (c.shape_fits.ensures ∙ shape_from c.args.function.now valid)),
)
