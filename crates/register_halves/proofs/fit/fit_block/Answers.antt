use Rattle.std.proofs.Common.{◌≡◌, ◌+◌, ◌-◌, arith, subst, inl, inr}
use Rattle.std.proofs.lemmas.Bool.{cases_lt}
use Rattle.register_halves.specs.Fit.{FitsAt}
use Rattle.mid_blocks.proofs.ValidLines.{block_fits}
use Rattle.register_halves.proofs.FitEnds.{line_here, step_behind_at}
use Rattle.register_halves.proofs.fit.fit_block.Goals as goal

pub overflow_cast-before : goal.overflow_cast-before
overflow_cast-before c = omega (arith, block_fits c.args.function.now c.requires.valid c.args.number c.args.block.now c.requires.is)

pub overflow_add-first : goal.overflow_add-first
overflow_add-first c = omega (arith, block_fits c.args.function.now c.requires.valid c.args.number c.args.block.now c.requires.is, c.requires.first)

pub overflow_cast-before-in-loop-before : goal.overflow_cast-before-in-loop-before
overflow_cast-before-in-loop-before c = omega (arith, block_fits c.args.function.now c.requires.valid c.args.number c.args.block.now c.requires.is, c.loop-before.invariant.within)

pub overflow_add-first-in-loop-before : goal.overflow_add-first-in-loop-before
overflow_add-first-in-loop-before c = omega (arith, block_fits c.args.function.now c.requires.valid c.args.number c.args.block.now c.requires.is, c.requires.first, c.loop-before.invariant.within)

pub fit_line-requires-clause-there : goal.fit_line-requires-clause-there
fit_line-requires-clause-there c = line_here c.args.function.now c.args.first c.args.number c.len-before.result c.args.block.now c.requires.is c.requires.first (omega arith)

pub loop-before-init : goal.loop-before-init
loop-before-init c = record {
  within = omega arith;
  eight = c.in_ok-fit_line.ensures.eight c.if-not-branch.false;
  here = c.in_ok-fit_line.ensures.here c.if-not-branch.false;
  fits = λ at lo hi. subst (FitsAt c.args.function.now c.args.places.now) (omega arith) (c.in_ok-fit_line.ensures.yes c.if-not-branch.false);
}

pub fit_line-requires-in-loop-before-clause-there : goal.fit_line-requires-in-loop-before-clause-there
fit_line-requires-in-loop-before-clause-there c = line_here c.args.function.now c.args.first c.args.number (c.loop-before.before - 1) c.args.block.now c.requires.is c.requires.first (omega (arith, c.loop-before.invariant.within))

pub fit_line-requires-in-loop-before-clause-behind : goal.fit_line-requires-in-loop-before-clause-behind
fit_line-requires-in-loop-before-clause-behind c =
    step_behind_at c.args.function.now c.args.places.now c.loop-before.now.items c.args.first c.args.number (c.loop-before.before - 1) c.loop-before.before c.args.block.now c.requires.is c.requires.first
    c.loop-before.invariant.within (omega arith) (omega arith) (c.loop-before.invariant.here (omega arith))

pub loop-before-preserved : goal.loop-before-preserved
loop-before-preserved c = record {
  within = omega (arith, c.loop-before.invariant.within);
  eight = c.in_ok-fit_line-2.ensures.eight c.if-not-branch-2.false;
  here = c.in_ok-fit_line-2.ensures.here c.if-not-branch-2.false;
  fits = λ at lo hi. elim (cases_lt at (c.args.first + c.loop-before.before)) [
    | inl l ↦ let e : c.args.first + (c.loop-before.before - 1) ≡ at = omega arith in subst (FitsAt c.args.function.now c.args.places.now) e (c.in_ok-fit_line-2.ensures.yes c.if-not-branch-2.false)
    | inr g ↦ c.loop-before.invariant.fits at g hi
  ];
}

pub returns-clause-yes : goal.returns-clause-yes
returns-clause-yes c = λ _ at lo hi. c.loop-before.invariant.fits at (omega (arith, c.requires.first)) (omega (arith, c.requires.first))
