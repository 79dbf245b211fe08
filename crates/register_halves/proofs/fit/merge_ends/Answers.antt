use Rattle.std.proofs.Common.{◌≡◌, ℕ, ◌+◌, ◌<◌, List, [], ◌∷◌, Some, length, arith, sym, ap, subst}
use Rattle.std.specs.Prelude.{slice_get}
use Rattle.std.specs.List.{Contains}
use Rattle.mid_blocks.specs.declared.code.MidBlock.{MidBlock}
use Rattle.mid_blocks.specs.declared.code.MidFunction.{MidFunction}
use Rattle.mid_blocks.specs.Valid.{ValidFunction}
use Rattle.register_liveness.specs.Uses.{successors}
use Rattle.register_halves.specs.Fit.{Holds}
use Rattle.register_liveness.proofs.Wanted.{contains_head, contains_tail}
use Rattle.register_liveness.proofs.Valid.{successors_exist}
use Rattle.register_liveness.proofs.Links.{only_one}
use Rattle.register_halves.proofs.FitEnds.{WantedIn, one_row, two_rows, no_rows, behind_end, unfit_row}
use Rattle.register_halves.proofs.fit.merge_ends.Goals as goal

there : (f : MidFunction) → ValidFunction f → (b : ℕ) (block : MidBlock) → slice_get f.blocks b ≡ Some block → (xs : List ℕ) → successors b block.end ≡ xs → (s : ℕ) → Contains xs s → s < length f.blocks
there f valid b block is xs e s c = successors_exist f valid b block s is (subst (λ (ys : List ℕ). Contains ys s) (sym e) c)

pub merge-requires-clause-there : goal.merge-requires-clause-there
merge-requires-clause-there c =
    let e = ap (successors c.args.number) c.in-Jump.is in
    omega (arith, there c.args.function.now c.requires.valid c.args.number c.args.block.now c.requires.is (c.in-Jump.to ∷ []) e c.in-Jump.to (contains_head c.in-Jump.to []), c.requires.rows.eight_each)

pub merge-requires-in-Branch-clause-there : goal.merge-requires-in-Branch-clause-there
merge-requires-in-Branch-clause-there c =
    let e = ap (successors c.args.number) c.in-Branch.is in
    omega (arith, there c.args.function.now c.requires.valid c.args.number c.args.block.now c.requires.is ((c.args.number + 1) ∷ c.in-Branch.to ∷ []) e (c.args.number + 1) (contains_head (c.args.number + 1) (c.in-Branch.to ∷ [])), c.requires.rows.eight_each)

pub merge-requires-in-Branch-2-clause-there : goal.merge-requires-in-Branch-2-clause-there
merge-requires-in-Branch-2-clause-there c =
    let e = ap (successors c.args.number) c.in-Branch.is in
    omega (arith, there c.args.function.now c.requires.valid c.args.number c.args.block.now c.requires.is ((c.args.number + 1) ∷ c.in-Branch.to ∷ []) e c.in-Branch.to (contains_tail (c.args.number + 1) (c.in-Branch.to ∷ []) c.in-Branch.to (contains_head c.in-Branch.to [])), c.requires.rows.eight_each)

pub merge-requires-in-Call-clause-there : goal.merge-requires-in-Call-clause-there
merge-requires-in-Call-clause-there c =
    let e = ap (successors c.args.number) c.in-Call.is in
    omega (arith, there c.args.function.now c.requires.valid c.args.number c.args.block.now c.requires.is ((c.args.number + 1) ∷ []) e (c.args.number + 1) (contains_head (c.args.number + 1) []), c.requires.rows.eight_each)

pub returns-in-Jump-clause-yes : goal.returns-in-Jump-clause-yes
returns-in-Jump-clause-yes c = λ h.
    let e = ap (successors c.args.number) c.in-Jump.is in
    let l = there c.args.function.now c.requires.valid c.args.number c.args.block.now c.requires.is (c.in-Jump.to ∷ []) e c.in-Jump.to (contains_head c.in-Jump.to []) in
    behind_end c.args.function.now c.args.places.now c.args.rows.now c.requires.rows c.requires.one_each c.args.number c.args.block.now c.requires.is c.merge.new.now.items
    (subst (λ (xs : List ℕ). Holds c.args.places.now c.merge.new.now.items (WantedIn c.args.function.now c.args.places.now c.args.rows.now c.requires.rows c.requires.one_each xs)) (sym e)
    (one_row c.args.function.now c.args.places.now c.args.rows.now c.requires.rows c.requires.one_each c.args.now.now.items c.merge.new.now.items c.in-Jump.to l c.requires.empty (c.merge.ensures.yes h)))

pub returns-in-Jump-clause-no : goal.returns-in-Jump-clause-no
returns-in-Jump-clause-no c = λ h.
    let e = ap (successors c.args.number) c.in-Jump.is in
    let l = there c.args.function.now c.requires.valid c.args.number c.args.block.now c.requires.is (c.in-Jump.to ∷ []) e c.in-Jump.to (contains_head c.in-Jump.to []) in
    unfit_row c.args.function.now c.args.places.now c.args.rows.now c.requires.rows c.requires.one_each c.args.number c.args.block.now c.requires.is c.args.now.now.items (λ v. ⊥) c.in-Jump.to
    (subst (λ (xs : List ℕ). Contains xs c.in-Jump.to) (sym e) (contains_head c.in-Jump.to [])) l (λ v x. absurd x) c.requires.empty (c.merge.ensures.no h)

pub returns-in-Call-clause-yes : goal.returns-in-Call-clause-yes
returns-in-Call-clause-yes c = λ h.
    let e = ap (successors c.args.number) c.in-Call.is in
    let l = there c.args.function.now c.requires.valid c.args.number c.args.block.now c.requires.is ((c.args.number + 1) ∷ []) e (c.args.number + 1) (contains_head (c.args.number + 1) []) in
    behind_end c.args.function.now c.args.places.now c.args.rows.now c.requires.rows c.requires.one_each c.args.number c.args.block.now c.requires.is c.merge-in-Call.new.now.items
    (subst (λ (xs : List ℕ). Holds c.args.places.now c.merge-in-Call.new.now.items (WantedIn c.args.function.now c.args.places.now c.args.rows.now c.requires.rows c.requires.one_each xs)) (sym e)
    (one_row c.args.function.now c.args.places.now c.args.rows.now c.requires.rows c.requires.one_each c.args.now.now.items c.merge-in-Call.new.now.items (c.args.number + 1) l c.requires.empty (c.merge-in-Call.ensures.yes h)))

pub returns-in-Call-clause-no : goal.returns-in-Call-clause-no
returns-in-Call-clause-no c = λ h.
    let e = ap (successors c.args.number) c.in-Call.is in
    let l = there c.args.function.now c.requires.valid c.args.number c.args.block.now c.requires.is ((c.args.number + 1) ∷ []) e (c.args.number + 1) (contains_head (c.args.number + 1) []) in
    unfit_row c.args.function.now c.args.places.now c.args.rows.now c.requires.rows c.requires.one_each c.args.number c.args.block.now c.requires.is c.args.now.now.items (λ v. ⊥) (c.args.number + 1)
    (subst (λ (xs : List ℕ). Contains xs (c.args.number + 1)) (sym e) (contains_head (c.args.number + 1) [])) l (λ v x. absurd x) c.requires.empty (c.merge-in-Call.ensures.no h)

pub returns-in-Return-clause-yes : goal.returns-in-Return-clause-yes
returns-in-Return-clause-yes c = λ _.
    let e = ap (successors c.args.number) c.in-Return.is in
    behind_end c.args.function.now c.args.places.now c.args.rows.now c.requires.rows c.requires.one_each c.args.number c.args.block.now c.requires.is c.args.now.now.items
    (subst (λ (xs : List ℕ). Holds c.args.places.now c.args.now.now.items (WantedIn c.args.function.now c.args.places.now c.args.rows.now c.requires.rows c.requires.one_each xs)) (sym e)
    (no_rows c.args.function.now c.args.places.now c.args.rows.now c.requires.rows c.requires.one_each c.args.now.now.items c.requires.empty))

pub returns-then-not-merge-clause-no : goal.returns-then-not-merge-clause-no
returns-then-not-merge-clause-no c = λ _.
    let e = ap (successors c.args.number) c.in-Branch.is in
    let has = contains_head (c.args.number + 1) (c.in-Branch.to ∷ []) in
    let l = there c.args.function.now c.requires.valid c.args.number c.args.block.now c.requires.is ((c.args.number + 1) ∷ c.in-Branch.to ∷ []) e (c.args.number + 1) has in
    unfit_row c.args.function.now c.args.places.now c.args.rows.now c.requires.rows c.requires.one_each c.args.number c.args.block.now c.requires.is c.args.now.now.items (λ v. ⊥) (c.args.number + 1)
    (subst (λ (xs : List ℕ). Contains xs (c.args.number + 1)) (sym e) has) l (λ v x. absurd x) c.requires.empty (c.merge-in-Branch.ensures.no c.if-not-merge.true)

pub returns-else-not-merge-clause-yes : goal.returns-else-not-merge-clause-yes
returns-else-not-merge-clause-yes c = λ h.
    let e = ap (successors c.args.number) c.in-Branch.is in
    let next = there c.args.function.now c.requires.valid c.args.number c.args.block.now c.requires.is ((c.args.number + 1) ∷ c.in-Branch.to ∷ []) e (c.args.number + 1) (contains_head (c.args.number + 1) (c.in-Branch.to ∷ [])) in
    let to = there c.args.function.now c.requires.valid c.args.number c.args.block.now c.requires.is ((c.args.number + 1) ∷ c.in-Branch.to ∷ []) e c.in-Branch.to (contains_tail (c.args.number + 1) (c.in-Branch.to ∷ []) c.in-Branch.to (contains_head c.in-Branch.to [])) in
    let first = one_row c.args.function.now c.args.places.now c.args.rows.now c.requires.rows c.requires.one_each c.args.now.now.items c.merge-in-Branch.new.now.items (c.args.number + 1) next c.requires.empty (c.merge-in-Branch.ensures.yes c.if-not-merge.false) in
    behind_end c.args.function.now c.args.places.now c.args.rows.now c.requires.rows c.requires.one_each c.args.number c.args.block.now c.requires.is c.merge-in-Branch-2.new.now.items
    (subst (λ (xs : List ℕ). Holds c.args.places.now c.merge-in-Branch-2.new.now.items (WantedIn c.args.function.now c.args.places.now c.args.rows.now c.requires.rows c.requires.one_each xs)) (sym e)
    (two_rows c.args.function.now c.args.places.now c.args.rows.now c.requires.rows c.requires.one_each c.merge-in-Branch.new.now.items c.merge-in-Branch-2.new.now.items (c.args.number + 1) c.in-Branch.to to first (c.merge-in-Branch-2.ensures.yes h)))

pub returns-else-not-merge-clause-no : goal.returns-else-not-merge-clause-no
returns-else-not-merge-clause-no c = λ h.
    let e = ap (successors c.args.number) c.in-Branch.is in
    let next = there c.args.function.now c.requires.valid c.args.number c.args.block.now c.requires.is ((c.args.number + 1) ∷ c.in-Branch.to ∷ []) e (c.args.number + 1) (contains_head (c.args.number + 1) (c.in-Branch.to ∷ [])) in
    let has = contains_tail (c.args.number + 1) (c.in-Branch.to ∷ []) c.in-Branch.to (contains_head c.in-Branch.to []) in
    let to = there c.args.function.now c.requires.valid c.args.number c.args.block.now c.requires.is ((c.args.number + 1) ∷ c.in-Branch.to ∷ []) e c.in-Branch.to has in
    let first = one_row c.args.function.now c.args.places.now c.args.rows.now c.requires.rows c.requires.one_each c.args.now.now.items c.merge-in-Branch.new.now.items (c.args.number + 1) next c.requires.empty (c.merge-in-Branch.ensures.yes c.if-not-merge.false) in
    unfit_row c.args.function.now c.args.places.now c.args.rows.now c.requires.rows c.requires.one_each c.args.number c.args.block.now c.requires.is c.merge-in-Branch.new.now.items
    (WantedIn c.args.function.now c.args.places.now c.args.rows.now c.requires.rows c.requires.one_each ((c.args.number + 1) ∷ [])) c.in-Branch.to
    (subst (λ (xs : List ℕ). Contains xs c.in-Branch.to) (sym e) has) to
    (λ v x. (x.0, subst (λ (xs : List ℕ). Contains xs x.0) (sym e) (subst (Contains ((c.args.number + 1) ∷ c.in-Branch.to ∷ [])) (only_one (c.args.number + 1) x.0 x.1) (contains_head (c.args.number + 1) (c.in-Branch.to ∷ []))), x.2)) first (c.merge-in-Branch-2.ensures.no h)
