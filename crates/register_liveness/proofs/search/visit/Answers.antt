use Rattle.std.proofs.Common.{◌≡◌, ◌<◌, false, true, get_or, length, arith, sym, ◌∙◌, subst}
use Rattle.std.specs.Prelude.{slice_set}
use Rattle.std.proofs.lemmas.List.{get_or_read}
use Rattle.mid_blocks.specs.Lines.{block_lines}
use Rattle.register_liveness.specs.declared.uses.FirstUse.TheVariants.{Untouched}
use Rattle.register_liveness.specs.Uses.{first_use}
use Rattle.register_liveness.specs.Search.{IsSearch}
use Rattle.mid_blocks.proofs.Positions.{got}
use Rattle.register_liveness.proofs.Searching.{flow_use, mark_one, goes_here, passed_other}
use Rattle.register_liveness.proofs.search.visit.Goals as goal

pub returns-in_ok-push-clause-search : goal.returns-in_ok-push-clause-search
returns-in_ok-push-clause-search c =
    let there = got c.args.function.now.blocks c.args.before c.requires.exists in
    let u : first_use c.args.v (block_lines there.0) ≡ Untouched = sym (flow_use c.args.function.now c.args.v c.args.flow.now c.requires.flow c.requires.variable c.args.before there.0 c.as_slice.result.now c.as_slice.ensures.value there.1) ∙ sym c.in-Untouched.ensures in
    let l : c.args.before < length c.args.marks.now.items = omega (arith, c.requires.exists, c.requires.search.one_each) in
    let unmarked : get_or c.args.marks.now.items c.args.before false ≡ false = sym (get_or_read c.args.marks.now.items c.args.before c.index.result.now l c.index.ensures false) ∙ c.if-index.false in
    subst (IsSearch c.args.function.now c.args.v (length c.args.function.now.blocks) (slice_set c.args.marks.now.items c.args.before true)) (sym c.in_ok-push.ensures.items)
    (mark_one c.args.function.now c.args.v (length c.args.function.now.blocks) c.args.marks.now.items c.args.found.now.items c.args.before c.requires.exists unmarked (c.requires.is_before there.0 there.1 u) c.requires.search)

pub returns-in_default : goal.returns-in_default
returns-in_default c = record {
  search = c.requires.search;
  goes_on = goes_here c.args.function.now c.args.v c.args.marks.now.items c.args.found.now.items;
  passed = passed_other c.args.function.now c.args.v c.args.marks.now.items c.args.before (λ block is u.
      let e : c.use_of.result ≡ Untouched = c.use_of.ensures ∙ flow_use c.args.function.now c.args.v c.args.flow.now c.requires.flow c.requires.variable c.args.before block c.as_slice.result.now c.as_slice.ensures.value is ∙ u in
      c.in_default.not-Untouched e);
}
