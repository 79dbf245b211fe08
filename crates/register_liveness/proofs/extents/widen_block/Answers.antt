use Rattle.std.proofs.Common.{ℕ, ◌+◌, length, arith, subst}
use Rattle.std.specs.Prelude.{slice_get}
use Rattle.mid_blocks.specs.Lines.{line_of, first_of}
use Rattle.mid_blocks.specs.Liveness.{LineAt}
use Rattle.register_liveness.specs.Met.{Widens, HasLine, HasLines}
use Rattle.mid_blocks.proofs.Positions.{line_there}
use Rattle.mid_blocks.proofs.ValidLines.{block_fits}
use Rattle.register_liveness.proofs.Valid.{on_ok}
use Rattle.register_liveness.proofs.Widening.{lines_more, on_ok_both}
use Rattle.register_liveness.proofs.extents.widen_block.Goals as goal

pub overflow_cast-before : goal.overflow_cast-before
overflow_cast-before c = omega (arith, block_fits c.args.function.now c.requires.valid c.args.number c.args.block.now c.requires.is)

pub overflow_add-first : goal.overflow_add-first
overflow_add-first c = omega (arith, block_fits c.args.function.now c.requires.valid c.args.number c.args.block.now c.requires.is, c.requires.first)

pub overflow_cast-steps : goal.overflow_cast-steps
overflow_cast-steps c = omega (arith, block_fits c.args.function.now c.requires.valid c.args.number c.args.block.now c.requires.is)

pub overflow_add-first-2 : goal.overflow_add-first-2
overflow_add-first-2 c = omega (arith, block_fits c.args.function.now c.requires.valid c.args.number c.args.block.now c.requires.is, c.requires.first)

pub widen_line-requires-clause-there : goal.widen_line-requires-clause-there
widen_line-requires-clause-there c =
    subst (λ (k : ℕ). LineAt c.args.function.now k (line_of (slice_get c.args.block.now.steps c.loop-before.before) c.args.block.now.end)) (omega (arith, c.requires.first))
    (line_there c.args.function.now c.args.number c.loop-before.before c.args.block.now c.requires.is (omega arith))

pub widen_line-requires-2-clause-there : goal.widen_line-requires-2-clause-there
widen_line-requires-2-clause-there c =
    subst (λ (k : ℕ). LineAt c.args.function.now k (line_of (slice_get c.args.block.now.steps c.len-steps.result) c.args.block.now.end)) (omega (arith, c.requires.first))
    (line_there c.args.function.now c.args.number c.len-steps.result c.args.block.now c.requires.is (omega arith))

pub loop-before-preserved : goal.loop-before-preserved
loop-before-preserved c =
    let there : LineAt c.args.function.now (c.args.first + c.loop-before.before) (line_of (slice_get c.args.block.now.steps c.loop-before.before) c.args.block.now.end) =
    subst (λ (k : ℕ). LineAt c.args.function.now k (line_of (slice_get c.args.block.now.steps c.loop-before.before) c.args.block.now.end)) (omega (arith, c.requires.first))
    (line_there c.args.function.now c.args.number c.loop-before.before c.args.block.now c.requires.is (omega arith)) in
    record {
      met = c.in_ok-widen_line.ensures.widens.met;
      kept = λ v at h. c.in_ok-widen_line.ensures.widens.kept v at (c.loop-before.invariant.kept v at h);
      so_far = lines_more c.args.function.now c.loop-before.extents.items c.widen_line.new.extents.items (c.args.first + c.loop-before.before) (c.args.first + (c.loop-before.before + 1)) (line_of (slice_get c.args.block.now.steps c.loop-before.before) c.args.block.now.end)
          (omega arith) there c.loop-before.invariant.so_far c.in_ok-widen_line.ensures.widens.kept c.in_ok-widen_line.ensures.has;
    }

pub returns-clause-widens : goal.returns-clause-widens
returns-clause-widens c = on_ok c.widen_line-2.result _ _ (λ (w : Widens c.args.function.now c.loop-before.extents.items c.widen_line-2.new.extents.items).
    let r : Widens c.args.function.now c.args.extents.now.items c.widen_line-2.new.extents.items = record { met = w.met; kept = λ v at h. w.kept v at (c.loop-before.invariant.kept v at h) } in r) c.widen_line-2.ensures.widens

pub returns-clause-has : goal.returns-clause-has
returns-clause-has c =
    let there : LineAt c.args.function.now (c.args.first + c.len-steps.result) (line_of (slice_get c.args.block.now.steps c.len-steps.result) c.args.block.now.end) =
    subst (λ (k : ℕ). LineAt c.args.function.now k (line_of (slice_get c.args.block.now.steps c.len-steps.result) c.args.block.now.end)) (omega (arith, c.requires.first))
    (line_there c.args.function.now c.args.number c.len-steps.result c.args.block.now c.requires.is (omega arith)) in
    let so_far : HasLines c.args.function.now c.loop-before.extents.items (c.args.first + c.len-steps.result) = subst (HasLines c.args.function.now c.loop-before.extents.items) (omega arith) c.loop-before.invariant.so_far in
    on_ok_both c.widen_line-2.result _ _ _ (λ (w : Widens c.args.function.now c.loop-before.extents.items c.widen_line-2.new.extents.items) (h : HasLine c.widen_line-2.new.extents.items (c.args.first + c.len-steps.result) (line_of (slice_get c.args.block.now.steps c.len-steps.result) c.args.block.now.end)).
    lines_more c.args.function.now c.loop-before.extents.items c.widen_line-2.new.extents.items (c.args.first + c.len-steps.result) (first_of c.args.function.now c.args.number + length c.args.block.now.steps + 1) (line_of (slice_get c.args.block.now.steps c.len-steps.result) c.args.block.now.end)
    (omega (arith, c.requires.first, c.len-steps.ensures)) there so_far w.kept h) c.widen_line-2.ensures.widens c.widen_line-2.ensures.has
