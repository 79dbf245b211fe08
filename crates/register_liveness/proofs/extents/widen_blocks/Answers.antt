use Rattle.std.proofs.Common.{◌≡◌, ℕ, get_or, arith, subst, inl, inr}
use Rattle.std.proofs.lemmas.Bool.{cases_lt}
use Rattle.std.proofs.lemmas.List.{get_or_default}
use Rattle.std.proofs.lemmas.List.Elements.{Contains-get_or}
use Rattle.register_liveness.specs.Met.{HasBlock}
use Rattle.register_liveness.proofs.Widening.{block_kept}
use Rattle.register_liveness.proofs.extents.widen_blocks.Goals as goal

pub widen_around-requires-clause-exists : goal.widen_around-requires-clause-exists
widen_around-requires-clause-exists c = c.requires.blocks.within (get_or c.args.blocks.now c.loop-b.b-index 0) (Contains-get_or c.args.blocks.now c.loop-b.b-index 0 c.loop-b-test.true)

pub loop-b-preserved : goal.loop-b-preserved
loop-b-preserved c = record {
  met = c.widen_around.ensures.widens.met;
  kept = λ u at h. c.widen_around.ensures.widens.kept u at (c.loop-b.invariant.kept u at h);
  has = λ k l. elim (cases_lt k c.loop-b.b-index) [
    | inl lt ↦ block_kept c.args.function.now c.loop-b.extents.items c.widen_around.new.extents.items c.args.v (get_or c.args.blocks.now k 0) c.widen_around.ensures.widens.kept (c.loop-b.invariant.has k lt)
    | inr ge ↦ let e : c.loop-b.b-index ≡ k = omega arith in subst (λ (j : ℕ). HasBlock c.args.function.now c.widen_around.new.extents.items c.args.v (get_or c.args.blocks.now j 0)) e c.widen_around.ensures.has
  ];
}

pub returns-clause-has : goal.returns-clause-has
returns-clause-has c = λ k d l. subst (HasBlock c.args.function.now c.loop-b.extents.items c.args.v) (get_or_default c.args.blocks.now k 0 d l) (c.loop-b.invariant.has k (omega arith))
