use Rattle.std.proofs.Common.{◌≡◌, ◌<◌, List, Option, None, get_or, length, arith, sym, ap, ◌∙◌, subst}
use Rattle.std.specs.Prelude.{slice_set}
use Rattle.std.proofs.lemmas.List.{get_or_read}
use Rattle.register_liveness.specs.declared.extents.Extent.{Extent}
use Rattle.register_liveness.specs.Met.{Widens, widened}
use Rattle.register_liveness.proofs.Widening.{widens_set}
use Rattle.register_liveness.proofs.extents.widen.Goals as goal

pub returns-clause-widens : goal.returns-clause-widens
returns-clause-widens c =
    let xs : List (Option Extent) = c.args.extents.now.items in
    let l : c.args.v < length xs = omega (arith, c.requires.extents.one_each, c.requires.variable) in
    let e : c.widened.result ≡ widened (get_or xs c.args.v None) c.args.at = c.widened.ensures ∙ ap (λ (o : Option Extent). widened o c.args.at) (get_or_read xs c.args.v c.index.result.now l c.index.ensures None) in
    subst (λ (o : Option Extent). Widens c.args.function.now xs (slice_set xs c.args.v o)) (sym e) (widens_set c.args.function.now xs c.args.v c.args.at c.requires.extents c.requires.variable c.requires.met)
