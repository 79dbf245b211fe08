use Rattle.std.proofs.Common.{◌∙◌, sym, subst, List, length}
use Rattle.std.specs.List.{All}
use Rattle.std.proofs.lemmas.Bool.{both_ways}
use Rattle.mid_blocks.specs.declared.code.MidFunction.{MidFunction}
use Rattle.mid_blocks.specs.Valid.{ValidFunction}
use Rattle.mid_blocks.specs.Tested.{HoldsBelow, may_stay}
use Rattle.mid_code.proofs.Calling.{program_from, names_to, stay_to}
use Rattle.mid_code.proofs.programs.valid.Goals as goal

pub returns-then-names_fit : goal.returns-then-names_fit
returns-then-names_fit c =
    let P : List MidFunction → Type 0 = λ functions. HoldsBelow (λ x. may_stay functions x) (length functions) in (
      λ t. program_from c.args.mid.now (subst (All ValidFunction) c.as_slice-functions.ensures (c.each_valid.ensures.0 c.if-not-each_valid.false)) (sym c.names_fit.ensures ∙ c.if-names_fit.true) (subst P c.as_slice-functions.ensures (c.each_called.ensures.0 t)),
      λ valid. c.each_called.ensures.1 (subst P (sym c.as_slice-functions.ensures) (stay_to c.args.mid.now valid)),
    )

pub returns-else-names_fit : goal.returns-else-names_fit
returns-else-names_fit c = (
  λ t. absurd (both_ways c.names_fit.result c.if-names_fit.false t),
  λ valid. absurd (both_ways c.names_fit.result c.if-names_fit.false (c.names_fit.ensures ∙ names_to c.args.mid.now valid)),
)
