-- The blocks of a lowered program of which only what is reached is left, and its branches, are at most what it costs.
use Rattle.std.proofs.Common.{◌≡◌, ◌≢◌, ℕ, zero, suc, ◌+◌, ◌≤◌, Bool, true, false, not, cond, ◌&&◌, ◌||◌, List, [], ◌∷◌, ◌++◌, map, sum, length, Option, Some, None, refl, sym, ap, ◌∙◌, subst, arith, length-append, if◌then◌else◌, ◌==◌, filter, option_map}
use Rattle.std.specs.Prelude.{slice_get}
use Rattle.std.specs.List.{list_any}
use Rattle.std.proofs.lemmas.List.{length-map}
use Rattle.std.proofs.lemmas.List.Sums.{sum_by-cons}
use Rattle.std.proofs.lemmas.Option.{slice_get-map}
use Rattle.c_syntax.specs.declared.tree.Stmt.{Stmt}
use Rattle.c_syntax.specs.declared.tree.Function.{Function}
use Rattle.c_syntax.specs.declared.tree.TopItem.{TopItem}
use Rattle.c_syntax.specs.declared.tree.TopItem.TheVariants as item
use Rattle.c_syntax.specs.Graph.{functions, has_body, body_of, function_named, defines, is_recursive}
use Rattle.c_syntax.specs.Costs.{call_cost, statement_cost, statement_temps, body_cost, item_cost}
use Rattle.c_syntax.specs.Sizes.{greatest, or_zero}
use Rattle.c_meaning.specs.Meaning.{Names, globals}
use Rattle.mid_blocks.specs.declared.code.MidStep.{MidStep}
use Rattle.mid_blocks.specs.declared.code.MidEnd.{MidEnd}
use Rattle.mid_blocks.specs.declared.code.MidEnd.TheVariants.{Jump, Branch, Call, Return}
use Rattle.mid_blocks.specs.declared.code.MidBlock.{MidBlock}
use Rattle.mid_blocks.specs.declared.code.MidFunction.{MidFunction}
use Rattle.mid_blocks.specs.declared.code.Mid.{Mid}
use Rattle.mid_blocks.specs.Lines.{Line, Step, End}
use Rattle.mid_blocks.specs.Size.{is_branch}
use Rattle.mid_blocks.specs.Valid.{target, falls_on}
use Rattle.lower_rules.specs.Bindings.{Bindings, InWord, OutWord, defined_callee, callee_of}
use Rattle.lower_rules.specs.Expressions.{callee_blocks}
use Rattle.lower_rules.specs.Statements.{Context, LowStmt, low_list, low_statement}
use Rattle.lower_rules.specs.Functions.{Counter, cut, begin_lines, end_lines, fallen_off, returned_from}
use Rattle.c_syntax.specs.Labels.{unlabelled, bare_clauses}
use Rattle.c_syntax.specs.Graph.{with_bodies}
use Rattle.lower_rules.specs.Programs.{some_of, returns_value, in_number_order, number_of, bindings_of, free_of, counter_of, low_function, low_program}
use Rattle.mid_blocks.specs.Renumbered.{Numbers, renumbered_end}
use Rattle.mid_blocks.specs.Pruned.{is_marked, marked, marks_of, function_marks, numbers_of, renumbered_block, pruned_function, pruned_from, pruned, ReachedIn, begin, jumped, fallen as fallen_in, called, OnlyReached}
use Rattle.lower_law.proofs.ExpressionSizes.{branches, branches-append}
use Rattle.lower_valid_law.proofs.Aims.{ends, named}
use Rattle.lower_valid_law.proofs.Blocks.{block_named}
use Rattle.lower_size_law.specs.LoweringBlocksLaws.{FewBlocks}
use Rattle.lower_size_law.proofs.Reach.{count, count_no, fallen, block_falls, Reach, reach_more, reach_steps, reach_jump, reach_join, reach_return}
use Rattle.lower_size_law.proofs.Lively.{Away, Live, body_live}
use Rattle.lower_size_law.proofs.Pigeons.{kept_few}

-- ---- what a call costs

defined_name : (name : ℕ) (items : List TopItem) (f : Function) → function_named name items ≡ Some f → list_any (defines name) items ≡ true
defined_name name [] f h = cc
defined_name name (item.Globals gs ∷ items) f h = defined_name name items f h
defined_name name (item.Function g ∷ items) f h = by (g.name == name && has_body g.body) h (defined_name name items f)
  where
    by : (b : Bool) → cond b (Some g) (function_named name items) ≡ Some f → (function_named name items ≡ Some f → list_any (defines name) items ≡ true) → (b || list_any (defines name) items) ≡ true
    by true e ih = refl
    by false e ih = ih e

callee_cost : (names : Names) (items : List TopItem) (number : ℕ → ℕ) (name : ℕ) → callee_blocks (callee_of names items number name) ≤ call_cost items name
callee_cost names items number name = by (name == names.in_word) (name == names.out_word) (function_named name items) refl
  where
    by : (b1 b2 : Bool) (o : Option Function) → function_named name items ≡ o → callee_blocks (if b1 then InWord else (if b2 then OutWord else defined_callee (number name) o)) ≤ call_cost items name
    by true b2 o is = omega arith
    by false true o is = omega arith
    by false false None is = omega arith
    by false false (Some f) is = let one : call_cost items name ≡ 1 = ap (λ (b : Bool). let n : ℕ = if b then 1 else 0 in n) (defined_name name items f is) in omega (arith, one)

-- ---- branches of blocks

abbrev branching : List MidBlock → ℕ
branching bs = sum (map (λ b. is_branch b.end) bs)

cut_branches : (steps : List MidStep) (ls : List Line) → branching (cut steps ls) ≡ branches ls
cut_branches steps [] = refl
cut_branches steps (Step s ∷ ls) = omega (arith, cut_branches (steps ++ s ∷ []) ls)
cut_branches steps (End e ∷ ls) = omega (arith, sum_by-cons (λ n. n) (is_branch e) (map (λ (b : MidBlock). is_branch b.end) (cut [] ls)), cut_branches [] ls)

same_branch : (new : Numbers) (f : ℕ) (e : MidEnd) → is_branch (renumbered_end new f e) ≡ is_branch e
same_branch new f (Jump to) = refl
same_branch new f (Branch t w to) = refl
same_branch new f (Call g args r) = refl
same_branch new f (Return r) = refl

kept_branches : (new : Numbers) (f : ℕ) (bs : List Bool) (xs : List MidBlock) → branching (map (renumbered_block new f) (marked bs xs)) ≤ branching xs
kept_branches new f [] xs = omega arith
kept_branches new f (b ∷ bs) [] = omega arith
kept_branches new f (true ∷ bs) (x ∷ xs) =
    let e = sum_by-cons (λ n. n) (is_branch (renumbered_end new f x.end)) (map (λ (b : MidBlock). is_branch b.end) (map (renumbered_block new f) (marked bs xs))) in
    let g = sum_by-cons (λ n. n) (is_branch x.end) (map (λ (b : MidBlock). is_branch b.end) xs) in
    omega (arith, e, g, same_branch new f x.end, kept_branches new f bs xs)
kept_branches new f (false ∷ bs) (x ∷ xs) =
    let g = sum_by-cons (λ n. n) (is_branch x.end) (map (λ (b : MidBlock). is_branch b.end) xs) in
    omega (arith, g, kept_branches new f bs xs)

-- ---- lines of a function

abbrev counter_if : Bool → ℕ → ℕ → Option Counter
counter_if r global spare = if r then Some (record { global = global; spare = spare }) else None

begin_steps : (r : Bool) (g s : ℕ) → (ends (begin_lines (counter_if r g s)) ≡ 0) × (branches (begin_lines (counter_if r g s)) ≡ 0)
begin_steps true g s = (refl, refl)
begin_steps false g s = (refl, refl)

end_steps : (r : Bool) (g s : ℕ) → (ends (end_lines (counter_if r g s)) ≡ 0) × (branches (end_lines (counter_if r g s)) ≡ 0)
end_steps true g s = (refl, refl)
end_steps false g s = (refl, refl)

fallen_steps : (b : Bool) (free : ℕ) → (ends (fallen_off b free) ≡ 0) × (branches (fallen_off b free) ≡ 0)
fallen_steps true free = (refl, refl)
fallen_steps false free = (refl, refl)

positive : (n : ℕ) → (n ≡ 0 → ⊥) → 1 ≤ n
positive zero h = absurd (h refl)
positive (suc n) h = omega arith

module _ (names : Names) (items : List TopItem) (f : Function) where
  abbrev binds : Bindings
  binds = bindings_of names items f

  abbrev body : List Stmt
  body = body_of f.body

  abbrev value : Bool
  value = some_of (map returns_value body)

  abbrev free : ℕ
  free = free_of f

  abbrev r : Bool
  r = is_recursive items f.name

  abbrev spare : ℕ
  spare = free + greatest (map statement_temps body)

  abbrev c : LowStmt
  c = low_list (map (low_statement binds) body)

  abbrev last : ℕ
  last = c.blocks + 1

  abbrev context : Context
  context = record { breaks_to = 0; continues_to = 0; returns_to = last; free = free }

  abbrev front : List Line
  front = c.lines context 0

  abbrev ending : List Line
  ending = end_lines (counter_of items f) ++ End (Return (returned_from value free)) ∷ []

  abbrev rest : List Line
  rest = fallen_off value free ++ (End (Jump last) ∷ ending)

  abbrev lines : List Line
  lines = begin_lines (counter_of items f) ++ (front ++ rest)

  body_is : Live c (sum (map (statement_cost items) body) + sum (map unlabelled body))
  body_is = body_live items binds (λ name. callee_cost names items (number_of names items) name) body

  abbrev Elsewhere : ℕ → Type 0
  Elsewhere y = (0 ≢ y) × (last ≢ y)

  abbrev starts : List ℕ
  starts = [] ++ (body_is.starts 0 ++ ([] ++ ([] ++ ([] ++ []))))

  reach : Reach Elsewhere 0 (last + 1) starts lines
  reach =
      let g : ℕ = length (globals items) in
      reach_join Elsewhere 0 0 0 (last + 1) (last + 1) [] _ (begin_lines (counter_of items f)) _ (omega arith) (omega arith) (reach_steps Elsewhere 0 (begin_lines (counter_of items f)) (begin_steps r g spare).0)
      (reach_join Elsewhere 0 c.blocks c.blocks 2 (last + 1) (body_is.starts 0) _ front _ (omega arith) (omega arith) (reach_more (Away context) Elsewhere 0 c.blocks _ _ (λ y o. record { breaks = o.0; continues = o.0; returns = o.1 }) (body_is.reach context 0))
      (reach_join Elsewhere c.blocks c.blocks 0 2 2 [] _ (fallen_off value free) _ (omega arith) refl (reach_steps Elsewhere c.blocks (fallen_off value free) (fallen_steps value free).0)
      (reach_join Elsewhere c.blocks last 1 1 2 [] _ (End (Jump last) ∷ []) ending refl refl (reach_jump Elsewhere c.blocks last (λ y o. o.1))
      (reach_join Elsewhere last last 0 1 1 [] [] (end_lines (counter_of items f)) _ (omega arith) refl (reach_steps Elsewhere last (end_lines (counter_of items f)) (end_steps r g spare).0) (reach_return Elsewhere last (returned_from value free))))))

  lines_branches : branches lines ≡ branches front
  lines_branches =
      let g : ℕ = length (globals items) in
      omega (
        arith,
        branches-append (begin_lines (counter_of items f)) (front ++ rest),
        branches-append front rest,
        branches-append (fallen_off value free) (End (Jump last) ∷ ending),
        branches-append (end_lines (counter_of items f)) (End (Return (returned_from value free)) ∷ []),
        (begin_steps r g spare).1,
        (fallen_steps value free).1,
        (end_steps r g spare).1,
      )

  -- the blocks that can be reached
  abbrev all : List ℕ
  all = 0 ∷ (last ∷ starts)

  named_one : (y : ℕ) → 1 ≤ named y lines → 1 ≤ count y all
  named_one y h = positive (count y all) (λ z. let no : Elsewhere y = (count_no 0 y (omega (arith, z)), count_no last y (omega (arith, z))) in absurd (omega (arith, h, reach.named_in y no (omega (arith, z)))))

  fallen_one : (y : ℕ) → 1 ≤ fallen y 0 lines → 1 ≤ count y all
  fallen_one y h = positive (count y all) (λ z. absurd (omega (arith, h, reach.fallen_in y (omega (arith, z)))))

  module _ (mid : Mid) (marks : List (List Bool)) (only : OnlyReached mid marks) (j : ℕ) (code_is : slice_get mid.functions j ≡ Some (low_function names items f)) where
    reached_one : (g n : ℕ) → ReachedIn mid g n → g ≡ j → 1 ≤ count n all
    reached_one g n begin same = omega arith
    reached_one g n (jumped g' m to d end w at here t) same =
        let both : Some d ≡ Some (low_function names items f) = sym at ∙ ap (slice_get mid.functions) same ∙ code_is in
        let d_is : d ≡ low_function names items f = cc in
        named_one to (block_named to m [] lines here.0 (ap (λ (y : MidFunction). slice_get y.blocks m) (sym d_is) ∙ here.1) (ap target here.2 ∙ t))
    reached_one g n (fallen_in g' m d end w at here t) same =
        let both : Some d ≡ Some (low_function names items f) = sym at ∙ ap (slice_get mid.functions) same ∙ code_is in
        let d_is : d ≡ low_function names items f = cc in
        fallen_one (m + 1) (block_falls (m + 1) 0 m [] lines here.0 (ap (λ (y : MidFunction). slice_get y.blocks m) (sym d_is) ∙ here.1) (ap falls_on here.2 ∙ t) (omega arith))
    reached_one g n (called g' m function d args result w at here) same = omega arith

    pub function_few : length (pruned_function marks j (low_function names items f)).blocks + sum (map (λ b. is_branch b.end) (pruned_function marks j (low_function names items f)).blocks) ≤ body_cost items (body_of f.body) + bare_clauses f
    function_few =
        let bs : List Bool = marks_of marks j in
        let blocks : List MidBlock = cut [] lines in
        let kept = kept_few bs blocks all (λ i m. reached_one j i (only.reached j i m) refl) in
        omega (arith, kept, length-map (marked bs blocks) (renumbered_block (numbers_of marks) j), kept_branches (numbers_of marks) j bs blocks, cut_branches [] lines, lines_branches, body_is.few context 0, length-append (body_is.starts 0) ([] ++ ([] ++ ([] ++ []))))

-- ---- programs

kept_sum : (marks : List (List Bool)) (i : ℕ) (ms : List Bool) (os : List Function) (low : Function → MidFunction) (w : MidFunction → ℕ) (v : Function → ℕ)
    → ((k : ℕ) (f : Function) → slice_get os k ≡ Some f → is_marked ms k ≡ true → w (pruned_function marks (i + k) (low f)) ≤ v f) → sum (map w (marked ms (pruned_from marks i (map low os)))) ≤ sum (map v os)
kept_sum marks i [] os low w v h = omega arith
kept_sum marks i (b ∷ ms) [] low w v h = omega arith
kept_sum marks i (true ∷ ms) (f ∷ os) low w v h =
    let same : i + 0 ≡ i = omega arith in
    let rest = kept_sum marks (suc i) ms os low w v (λ k g at m. let e : i + suc k ≡ suc i + k = omega arith in subst (λ n. w (pruned_function marks n (low g)) ≤ v g) e (h (suc k) g at m)) in
    let head : w (pruned_function marks i (low f)) ≤ v f = subst (λ n. w (pruned_function marks n (low f)) ≤ v f) same (h 0 f refl refl) in
    omega (arith, rest, head, sum_by-cons (λ n. n) (w (pruned_function marks i (low f))) (map w (marked ms (pruned_from marks (suc i) (map low os)))), sum_by-cons (λ n. n) (v f) (map v os))
kept_sum marks i (false ∷ ms) (f ∷ os) low w v h =
    let rest = kept_sum marks (suc i) ms os low w v (λ k g at m. let e : i + suc k ≡ suc i + k = omega arith in subst (λ n. w (pruned_function marks n (low g)) ≤ v g) e (h (suc k) g at m)) in
    omega (arith, rest, sum_by-cons (λ n. n) (v f) (map v os))

sum_both : (v : Function → ℕ) (xs ys : List Function) → sum (map v (xs ++ ys)) ≡ sum (map v xs) + sum (map v ys)
sum_both v [] ys = omega arith
sum_both v (x ∷ xs) ys = omega (arith, sum_by-cons (λ n. n) (v x) (map v (xs ++ ys)), sum_by-cons (λ n. n) (v x) (map v xs), sum_both v xs ys)

sum_parts : (v : Function → ℕ) (p : Function → Bool) (xs : List Function) → sum (map v (filter p xs)) + sum (map v (filter (λ f. not (p f)) xs)) ≤ sum (map v xs)
sum_parts v p [] = omega arith
sum_parts v p (x ∷ xs) = by (p x) (sum_parts v p xs)
  where
    some : List Function
    some = filter p xs

    others : List Function
    others = filter (λ f. not (p f)) xs

    by : (b : Bool) → sum (map v some) + sum (map v others) ≤ sum (map v xs) → sum (map v (cond b (x ∷ some) some)) + sum (map v (cond (not b) (x ∷ others) others)) ≤ sum (map v (x ∷ xs))
    by true ih = omega (arith, ih, sum_by-cons (λ n. n) (v x) (map v some), sum_by-cons (λ n. n) (v x) (map v xs))
    by false ih = omega (arith, ih, sum_by-cons (λ n. n) (v x) (map v others), sum_by-cons (λ n. n) (v x) (map v xs))

sum_added : (v u : Function → ℕ) (xs : List Function) → sum (map (λ f. v f + u f) xs) ≡ sum (map v xs) + sum (map u xs)
sum_added v u [] = refl
sum_added v u (x ∷ xs) = omega (arith, sum_by-cons (λ n. n) (v x + u x) (map (λ (f : Function). v f + u f) xs), sum_by-cons (λ n. n) (v x) (map v xs), sum_by-cons (λ n. n) (u x) (map u xs), sum_added v u xs)

module _ (items : List TopItem) where
  abbrev cost_of : Function → ℕ
  cost_of f = body_cost items (body_of f.body)

  bodies_cost : (xs : List TopItem) → sum (map cost_of (filter (λ f. has_body f.body) (functions xs))) ≤ sum (map (item_cost items) xs)
  bodies_cost [] = omega arith
  bodies_cost (item.Globals gs ∷ xs) = omega (arith, bodies_cost xs, sum_by-cons (λ n. n) (item_cost items (item.Globals gs)) (map (item_cost items) xs))
  bodies_cost (item.Function f ∷ xs) = by f.body refl (bodies_cost xs)
    where
      others : List Function
      others = filter (λ g. has_body g.body) (functions xs)

      by : (o : Option (List Stmt)) → f.body ≡ o → sum (map cost_of others) ≤ sum (map (item_cost items) xs) → sum (map cost_of (cond (has_body o) (f ∷ others) others)) ≤ sum (map (item_cost items) (item.Function f ∷ xs))
      by None is ih = omega (arith, ih, sum_by-cons (λ n. n) (item_cost items (item.Function f)) (map (item_cost items) xs))
      by (Some b) is ih =
          let same : item_cost items (item.Function f) ≡ cost_of f = subst (λ o. (or_zero (body_cost items) o) ≡ body_cost items (body_of o)) (sym is) refl in
          omega (arith, ih, same, sum_by-cons (λ n. n) (cost_of f) (map cost_of others), sum_by-cons (λ n. n) (item_cost items (item.Function f)) (map (item_cost items) xs))

weight : MidFunction → ℕ
weight p = length p.blocks + sum (map (λ b. is_branch b.end) p.blocks)

counts_are : (fs : List MidFunction) → sum (map (λ f. length f.blocks) fs) + sum (map (λ f. sum (map (λ b. is_branch b.end) f.blocks)) fs) ≡ sum (map weight fs)
unfolding weight
counts_are [] = refl
counts_are (f ∷ fs) = omega (arith, counts_are fs, sum_by-cons (λ n. n) (length f.blocks) (map (λ (g : MidFunction). length g.blocks) fs), sum_by-cons (λ n. n) (sum (map (λ (b : MidBlock). is_branch b.end) f.blocks)) (map (λ (g : MidFunction). sum (map (λ (b : MidBlock). is_branch b.end) g.blocks)) fs), sum_by-cons (λ n. n) (weight f) (map weight fs))

pub few_blocks : FewBlocks
unfolding weight
few_blocks names program chain_pairs marks labelled only =
    let items : List TopItem = program.items in
    let order : List Function = in_number_order names.main items in
    let mid : Mid = low_program names program chain_pairs in
    let v : Function → ℕ = λ f. body_cost items (body_of f.body) + bare_clauses f in
    let each : (k : ℕ) (f : Function) → slice_get order k ≡ Some f → is_marked (function_marks marks) k ≡ true → weight (pruned_function marks (0 + k) (low_function names items f)) ≤ v f = λ k f at m.
    let same : 0 + k ≡ k = omega arith in
    let code_is : slice_get mid.functions k ≡ Some (low_function names items f) = slice_get-map (low_function names items) order k ∙ ap (option_map (low_function names items)) at in
    subst (λ n. weight (pruned_function marks n (low_function names items f)) ≤ v f) (sym same) (function_few names items f mid marks only k code_is) in
    let total : sum (map weight (pruned marks mid).functions) ≤ sum (map v order) = kept_sum marks 0 (function_marks marks) order (low_function names items) weight v each in
    let ordered : sum (map v order) ≤ sum (map v (with_bodies items)) = omega (arith, sum_both v (filter (λ f. f.name == names.main) (with_bodies items)) (filter (λ f. not (f.name == names.main)) (with_bodies items)), sum_parts v (λ f. f.name == names.main) (with_bodies items)) in
    omega (arith, labelled, total, ordered, sum_added (cost_of items) bare_clauses (with_bodies items), bodies_cost items items, counts_are (pruned marks mid).functions)
