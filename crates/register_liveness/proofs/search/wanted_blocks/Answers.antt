use Rattle.std.proofs.Common.{◌≡◌, ℕ, ◌+◌, ◌<◌, List, [], ◌∷◌, ◌++◌, Bool, false, true, get_or, length, arith, sym, ap, ◌∙◌, subst, inl, inr}
use Rattle.std.proofs.lemmas.Bool.{cases_lt}
use Rattle.std.proofs.lemmas.List.{get_or_read}
use Rattle.register_liveness.specs.Search.{IsSearch, IsSpread}
use Rattle.mid_blocks.proofs.Positions.{got}
use Rattle.mid_blocks.proofs.ValidLines.{few_blocks}
use Rattle.register_liveness.proofs.Searching.{flow_use, seed_yes, seed_no, goes_at, goes_length, goes_spread, search_done}
use Rattle.register_liveness.proofs.search.wanted_blocks.Goals as goal
use Rattle.register_liveness.proofs.search.wanted_blocks.Goals.{in-Read+in_ok-push+in_ok-push-2, in_default+in_ok-push-3}

pub overflow_cast-blocks : goal.overflow_cast-blocks
overflow_cast-blocks c = omega (arith, few_blocks c.args.function.now c.requires.valid)

pub loop-block-preserved : goal.loop-block-preserved
loop-block-preserved c =
    let there = got c.args.function.now.blocks c.loop-block.block (omega arith) in
    let use_is = flow_use c.args.function.now c.args.v c.args.flow.now c.requires.flow c.requires.variable c.loop-block.block there.0 c.as_slice.result.now c.as_slice.ensures.value there.1 in
    elim c.match-use_of.branch [
      | in-Read+in_ok-push+in_ok-push-2 w ↦
          let e1 : c.match-use_of.marks.items ≡ c.loop-block.marks.items ++ true ∷ [] = cc (w.in_ok-push.ensures.items) in
          let e2 : c.match-use_of.found.items ≡ c.loop-block.found.items ++ c.loop-block.block ∷ [] = cc (w.in_ok-push-2.ensures.items) in
          subst (λ (ms : List Bool). IsSearch c.args.function.now c.args.v (c.loop-block.block + 1) ms c.match-use_of.found.items) (sym e1)
          (subst (IsSearch c.args.function.now c.args.v (c.loop-block.block + 1) (c.loop-block.marks.items ++ true ∷ [])) (sym e2)
          (seed_yes c.args.function.now c.args.v c.loop-block.block c.loop-block.marks.items c.loop-block.found.items there.0 there.1 (sym use_is ∙ sym w.in-Read.ensures) c.loop-block.invariant))
      | in_default+in_ok-push-3 w ↦
          let e1 : c.match-use_of.marks.items ≡ c.loop-block.marks.items ++ false ∷ [] = cc (w.in_ok-push-3.ensures.items) in
          let e2 : c.match-use_of.found.items ≡ c.loop-block.found.items = cc in
          subst (λ (ms : List Bool). IsSearch c.args.function.now c.args.v (c.loop-block.block + 1) ms c.match-use_of.found.items) (sym e1)
          (subst (IsSearch c.args.function.now c.args.v (c.loop-block.block + 1) (c.loop-block.marks.items ++ false ∷ [])) (sym e2)
          (seed_no c.args.function.now c.args.v c.loop-block.block c.loop-block.marks.items c.loop-block.found.items there.0 there.1 (λ u. w.in_default.not-Read (c.use_of.ensures ∙ use_is ∙ u)) c.loop-block.invariant))
    ]

pub loop-next-preserved : goal.loop-next-preserved
loop-next-preserved c =
    let l : c.loop-next.next < length c.loop-next.found.items = omega (arith, c.loop-next.found.ok) in
    let at : c.index-block.result.now ≡ get_or c.loop-next.found.items c.loop-next.next 0 = get_or_read c.loop-next.found.items c.loop-next.next c.index-block.result.now l c.index-block.ensures 0 in
    let g = c.in_ok-spread.ensures.goes_on in
    record {
      search = c.in_ok-spread.ensures.search;
      within = omega (arith, l, goes_length c.args.function.now c.args.v c.loop-next.marks.items c.spread.new.marks.items c.loop-next.found.items c.spread.new.found.items g);
      so_far = λ k lk. elim (cases_lt k c.loop-next.next) [
        | inl lt ↦ subst (IsSpread c.args.function.now c.args.v c.spread.new.marks.items) (sym (goes_at c.args.function.now c.args.v c.loop-next.marks.items c.spread.new.marks.items c.loop-next.found.items c.spread.new.found.items k g (omega arith)))
            (goes_spread c.args.function.now c.args.v c.loop-next.marks.items c.spread.new.marks.items c.loop-next.found.items c.spread.new.found.items (get_or c.loop-next.found.items k 0) g (c.loop-next.invariant.so_far k lt))
        | inr ge ↦
            let e : c.loop-next.next ≡ k = omega arith in
            let e2 : c.index-block.result.now ≡ get_or c.spread.new.found.items k 0 = at ∙ ap (λ (j : ℕ). get_or c.loop-next.found.items j 0) e ∙ sym (goes_at c.args.function.now c.args.v c.loop-next.marks.items c.spread.new.marks.items c.loop-next.found.items c.spread.new.found.items k g (omega arith)) in
            subst (IsSpread c.args.function.now c.args.v c.spread.new.marks.items) e2 c.in_ok-spread.ensures.spread
      ];
    }

pub returns : goal.returns
returns c = search_done c.args.function.now c.args.v c.requires.valid c.loop-next.marks.items c.loop-next.found.items c.loop-next.next c.loop-next.invariant.search (omega (arith, c.loop-next.found.ok)) c.loop-next.invariant.so_far
