use Rattle.std.proofs.Common.{◌∙◌, sym, refl, false}
use Rattle.std.proofs.lemmas.Bool.{both_ways}
use Rattle.hard_code.proofs.Whole.{answer_items, answer_functions, answer_successors, answer_well}
use Rattle.hard_code.proofs.programs.well_formed.Goals as goal

pub returns-then-not-each_fits : goal.returns-then-not-each_fits
returns-then-not-each_fits c = (
  λ t. absurd (both_ways false refl t),
  λ w. absurd (both_ways c.each_fits.result c.if-not-each_fits.true (c.each_fits.ensures.1 (answer_items c.args.program.now c.as_slice-blocks.result.now c.as_slice-entries.result.now c.as_slice-blocks.ensures c.as_slice-entries.ensures w))),
)

pub returns-then-functions_fit : goal.returns-then-functions_fit
returns-then-functions_fit c = (
  λ t. answer_well c.args.program.now c.as_slice-blocks.result.now c.as_slice-entries.result.now c.as_slice-blocks.ensures c.as_slice-entries.ensures (sym c.numbers_fit.ensures ∙ c.if-not-numbers_fit.false)
      (c.each_fits.ensures.0 c.if-not-each_fits.false) (c.functions_fit.ensures.0 c.if-functions_fit.true) (c.successors_fit.ensures.0 t),
  λ w. c.successors_fit.ensures.1 (answer_successors c.args.program.now c.as_slice-blocks.result.now c.as_slice-entries.result.now c.as_slice-blocks.ensures c.as_slice-entries.ensures w),
)

pub returns-else-functions_fit : goal.returns-else-functions_fit
returns-else-functions_fit c = (
  λ t. absurd (both_ways c.functions_fit.result c.if-functions_fit.false t),
  λ w. absurd (both_ways c.functions_fit.result c.if-functions_fit.false (c.functions_fit.ensures.1 (answer_functions c.args.program.now c.as_slice-blocks.result.now c.as_slice-entries.result.now c.as_slice-blocks.ensures c.as_slice-entries.ensures w))),
)
