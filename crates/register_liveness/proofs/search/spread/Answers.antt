use Rattle.std.proofs.Common.{◌≡◌, ℕ, ◌<◌, List, [], get_or, length, arith, ap, ◌∙◌, subst, inl, inr}
use Rattle.std.specs.List.{Contains}
use Rattle.std.proofs.lemmas.Bool.{cases_lt}
use Rattle.std.proofs.lemmas.List.{get_or_read}
use Rattle.std.proofs.lemmas.List.Elements.{Contains-get_or}
use Rattle.register_liveness.specs.Search.{IsPassed}
use Rattle.mid_blocks.proofs.Positions.{get_within}
use Rattle.register_liveness.proofs.Searching.{marked_within, wanted_before, goes_trans, spread_all}
use Rattle.register_liveness.proofs.search.spread.Goals as goal

pub index-requires : goal.index-requires
index-requires c = omega (arith, marked_within c.args.marks.now.items c.args.block (c.requires.search.found_marked c.args.block c.requires.is_found), c.requires.search.one_each, c.requires.flow.leading.one_each, c.args.flow.now.leading.ok)

-- a block of the list leads to the block
leads : (lists : List (List ℕ)) (b k : ℕ) (x ys : List ℕ) → b < length lists → x ≡ get_or lists b x → ys ≡ x → k < length ys → (ys ≡ get_or lists b []) × Contains (get_or lists b []) (get_or ys k 0)
leads lists b k x ys l h e lk = let same : ys ≡ get_or lists b [] = e ∙ get_or_read lists b x l h [] in (same, subst (λ (zs : List ℕ). Contains zs (get_or ys k 0)) same (Contains-get_or ys k 0 lk))

pub visit-requires-clause-exists : goal.visit-requires-clause-exists
visit-requires-clause-exists c =
    let l : c.args.block < length c.args.flow.now.leading.items = omega (arith, marked_within c.args.marks.now.items c.args.block (c.requires.search.found_marked c.args.block c.requires.is_found), c.requires.search.one_each, c.requires.flow.leading.one_each) in
    let p = leads c.args.flow.now.leading.items c.args.block c.loop-before.before-index c.index.result.now c.as_slice-before-items.result.now l c.index.ensures c.as_slice-before-items.ensures c.loop-before-test.true in
    let to = c.requires.flow.leading.sound c.args.block (get_or c.as_slice-before-items.result.now c.loop-before.before-index 0) p.1 in
    get_within c.args.function.now.blocks (get_or c.as_slice-before-items.result.now c.loop-before.before-index 0) to.0 to.1

pub visit-requires-clause-is_before : goal.visit-requires-clause-is_before
visit-requires-clause-is_before c = λ block is u.
    let l : c.args.block < length c.args.flow.now.leading.items = omega (arith, marked_within c.args.marks.now.items c.args.block (c.requires.search.found_marked c.args.block c.requires.is_found), c.requires.search.one_each, c.requires.flow.leading.one_each) in
    let p = leads c.args.flow.now.leading.items c.args.block c.loop-before.before-index c.index.result.now c.as_slice-before-items.result.now l c.index.ensures c.as_slice-before-items.ensures c.loop-before-test.true in
    let to = c.requires.flow.leading.sound c.args.block (get_or c.as_slice-before-items.result.now c.loop-before.before-index 0) p.1 in
    wanted_before c.args.function.now c.args.v (get_or c.as_slice-before-items.result.now c.loop-before.before-index 0) c.args.block block to is u (c.requires.search.sound c.args.block c.requires.is_found)

pub loop-before-preserved : goal.loop-before-preserved
loop-before-preserved c =
    let l : c.args.block < length c.args.flow.now.leading.items = omega (arith, marked_within c.args.marks.now.items c.args.block (c.requires.search.found_marked c.args.block c.requires.is_found), c.requires.search.one_each, c.requires.flow.leading.one_each) in
    let p = leads c.args.flow.now.leading.items c.args.block c.loop-before.before-index c.index.result.now c.as_slice-before-items.result.now l c.index.ensures c.as_slice-before-items.ensures c.loop-before-test.true in
    record {
      search = c.in_ok-visit.ensures.search;
      goes_on = goes_trans c.args.function.now c.args.v c.args.marks.now.items c.loop-before.marks.items c.visit.new.marks.items c.args.found.now.items c.loop-before.found.items c.visit.new.found.items c.loop-before.invariant.goes_on c.in_ok-visit.ensures.goes_on;
      so_far = λ k lk. elim (cases_lt k c.loop-before.before-index) [
        | inl lt ↦ λ block is u. c.in_ok-visit.ensures.goes_on.kept (get_or (get_or c.args.flow.now.leading.items c.args.block []) k 0) (c.loop-before.invariant.so_far k lt block is u)
        | inr ge ↦
            let e : c.loop-before.before-index ≡ k = omega arith in
            let e2 : get_or c.as_slice-before-items.result.now c.loop-before.before-index 0 ≡ get_or (get_or c.args.flow.now.leading.items c.args.block []) k 0 = ap (λ (xs : List ℕ). get_or xs c.loop-before.before-index 0) p.0 ∙ ap (λ (j : ℕ). get_or (get_or c.args.flow.now.leading.items c.args.block []) j 0) e in
            subst (IsPassed c.args.function.now c.args.v c.visit.new.marks.items) e2 c.in_ok-visit.ensures.passed
      ];
    }

pub returns-clause-spread : goal.returns-clause-spread
returns-clause-spread c =
    let l : c.args.block < length c.args.flow.now.leading.items = omega (arith, marked_within c.args.marks.now.items c.args.block (c.requires.search.found_marked c.args.block c.requires.is_found), c.requires.search.one_each, c.requires.flow.leading.one_each) in
    let e : length c.as_slice-before-items.result.now ≡ length (get_or c.args.flow.now.leading.items c.args.block []) = ap length (c.as_slice-before-items.ensures ∙ get_or_read c.args.flow.now.leading.items c.args.block c.index.result.now l c.index.ensures []) in
    spread_all c.args.function.now c.args.v c.loop-before.marks.items c.args.flow.now.leading.items c.args.block c.loop-before.before-index c.requires.flow.leading (omega arith) c.loop-before.invariant.so_far
