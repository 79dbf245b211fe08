use Rattle.std.proofs.Common.{◌≡◌, ℕ, ◌+◌, ◌<◌, List, [], Some, get_or, length, arith, sym, ap, ◌∙◌, subst}
use Rattle.std.specs.Prelude.{slice_get}
use Rattle.std.proofs.lemmas.List.{get_or_read, get_or_default}
use Rattle.mid_blocks.specs.Lines.{first_of}
use Rattle.register_liveness.specs.Met.{IsMet, by_first, by_last, Held}
use Rattle.mid_blocks.proofs.Positions.{get_within}
use Rattle.register_liveness.proofs.Widening.{first_read, leads}
use Rattle.register_liveness.proofs.extents.widen_around.Goals as goal

pub widen-requires-clause-met : goal.widen-requires-clause-met
widen-requires-clause-met c = subst (IsMet c.args.function.now c.args.v) (sym (first_read c.args.function.now c.args.flow.now.firsts.items c.args.b c.index.result.now c.requires.flow.firsts c.requires.exists c.index.ensures)) (by_first c.args.b c.requires.exists c.requires.wanted)

pub last_of-requires-clause-exists : goal.last_of-requires-clause-exists
last_of-requires-clause-exists c =
    let l : c.args.b < length c.args.flow.now.leading.items = omega (arith, c.requires.exists, c.requires.flow.leading.one_each) in
    let p = leads c.args.flow.now.leading.items c.args.b c.loop-before.before-index c.index-2.result.now c.as_slice-before-items.result.now l c.index-2.ensures c.as_slice-before-items.ensures c.loop-before-test.true in
    let to = c.requires.flow.leading.sound c.args.b (get_or c.as_slice-before-items.result.now c.loop-before.before-index 0) p.1 in
    get_within c.args.function.now.blocks (get_or c.as_slice-before-items.result.now c.loop-before.before-index 0) to.0 to.1

pub widen-requires-in-loop-before-clause-met : goal.widen-requires-in-loop-before-clause-met
widen-requires-in-loop-before-clause-met c =
    let l : c.args.b < length c.args.flow.now.leading.items = omega (arith, c.requires.exists, c.requires.flow.leading.one_each) in
    let p = leads c.args.flow.now.leading.items c.args.b c.loop-before.before-index c.index-2.result.now c.as_slice-before-items.result.now l c.index-2.ensures c.as_slice-before-items.ensures c.loop-before-test.true in
    let to = c.requires.flow.leading.sound c.args.b (get_or c.as_slice-before-items.result.now c.loop-before.before-index 0) p.1 in
    subst (IsMet c.args.function.now c.args.v) (sym (c.last_of.ensures to.0 to.1)) (by_last (get_or c.as_slice-before-items.result.now c.loop-before.before-index 0) c.args.b to.0 to.1 to.2 c.requires.wanted)

pub returns-clause-has : goal.returns-clause-has
returns-clause-has c =
    let l : c.args.b < length c.args.flow.now.leading.items = omega (arith, c.requires.exists, c.requires.flow.leading.one_each) in
    let xs : List ℕ = get_or c.args.flow.now.leading.items c.args.b [] in
    let same : length c.as_slice-before-items.result.now ≡ length xs = ap length (c.as_slice-before-items.ensures ∙ get_or_read c.args.flow.now.leading.items c.args.b c.index-2.result.now l c.index-2.ensures []) in
    record {
      first = subst (Held c.loop-before.extents.items c.args.v) (first_read c.args.function.now c.args.flow.now.firsts.items c.args.b c.index.result.now c.requires.flow.firsts c.requires.exists c.index.ensures)
          (c.loop-before.invariant.kept c.args.v c.index.result.now c.widen.ensures.held);
      lasts = λ p block is to.
          let h = c.requires.flow.leading.complete c.args.b p (block, is, to) in
          let e : get_or xs h.0 0 ≡ p = get_or_default xs h.0 0 p h.1 ∙ h.2 in
          subst (λ (q : ℕ). slice_get c.args.function.now.blocks q ≡ Some block → Held c.loop-before.extents.items c.args.v (first_of c.args.function.now q + length block.steps)) e
          (c.loop-before.invariant.lasts h.0 block (omega (arith, h.1))) is;
    }
