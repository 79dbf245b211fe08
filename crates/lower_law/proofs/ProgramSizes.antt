-- How many words a lowered program comes to, by the nodes of its tree.
use Rattle.std.proofs.Common.{◌≡◌, ℕ, suc, ◌+◌, ◌*◌, ◌≤◌, Bool, true, false, not, cond, ◌&&◌, ◌||◌, List, [], ◌∷◌, ◌++◌, map, sum, length, Option, Some, None, refl, sym, ap, subst, if◌then◌else◌, ◌==◌, arith, filter}
use Rattle.std.specs.List.{list_any}
use Rattle.std.proofs.lemmas.List.Sums.{sum_by-cons}
use Rattle.c_syntax.specs.declared.tree.Stmt.{Stmt}
use Rattle.c_syntax.specs.declared.tree.Function.{Function}
use Rattle.c_syntax.specs.declared.tree.TopItem.{TopItem}
use Rattle.c_syntax.specs.declared.tree.TopItem.TheVariants as item
use Rattle.c_syntax.specs.declared.tree.Program.{Program}
use Rattle.c_syntax.specs.Graph.{functions, has_body, body_of, function_named, defines}
use Rattle.c_syntax.specs.Costs.{call_cost}
use Rattle.c_syntax.specs.Sizes.{body_nodes, function_nodes, item_nodes, program_nodes, statement_nodes}
use Rattle.c_meaning.specs.Meaning.{Names}
use Rattle.mid_blocks.specs.declared.code.MidStep.{MidStep}
use Rattle.mid_blocks.specs.declared.code.MidEnd.{MidEnd}
use Rattle.mid_blocks.specs.declared.code.MidEnd.TheVariants.{Jump, Branch, Call, Return}
use Rattle.mid_blocks.specs.declared.code.MidBlock.{MidBlock}
use Rattle.mid_blocks.specs.declared.code.MidFunction.{MidFunction}
use Rattle.mid_blocks.specs.declared.code.Mid.{Mid}
use Rattle.mid_blocks.specs.Lines.{Line, Step, End}
use Rattle.mid_blocks.specs.Size.{step_words, block_words, function_words, words as program_words}
use Rattle.lower_rules.specs.Bindings.{InWord, OutWord, callee_of, defined_callee}
use Rattle.lower_rules.specs.Expressions.{callee_blocks}
use Rattle.lower_rules.specs.Statements.{Context, LowStmt, low_statement, low_list, list_lines}
use Rattle.lower_rules.specs.Functions.{Counter, cut, begin_lines, end_lines, fallen_off, returned_from, body_lines}
use Rattle.mid_blocks.specs.Renumbered.{Numbers}
use Rattle.mid_blocks.specs.Pruned.{marked, function_marks, numbers_of, marks_of, renumbered_block, pruned_function, pruned_from, pruned}
use Rattle.c_syntax.specs.Graph.{with_bodies}
use Rattle.lower_rules.specs.Programs.{some_of, returns_value, in_number_order, number_of, bindings_of, free_of, counter_of, low_function, low_program}
use Rattle.lower_law.proofs.ExpressionSizes.{words, words-append}
use Rattle.lower_law.proofs.StatementSizes.{sized_statement}
use Rattle.c_syntax.specs.Labels.{unlabelled, bare_clauses}

-- ---- blocks

steps_and : (xs : List MidStep) (x : MidStep) → sum (map step_words (xs ++ x ∷ [])) ≡ sum (map step_words xs) + step_words x
steps_and [] x = let e = sum_by-cons (λ n. n) (step_words x) [] in omega (arith, e)
steps_and (y ∷ xs) x =
    let e = sum_by-cons (λ n. n) (step_words y) (map step_words (xs ++ x ∷ [])) in
    let f = sum_by-cons (λ n. n) (step_words y) (map step_words xs) in
    omega (arith, e, f, steps_and xs x)

-- the blocks that lines are cut into come to no more words than the lines
cut_words : (steps : List MidStep) (lines : List Line) → sum (map block_words (cut steps lines)) ≤ sum (map step_words steps) + words lines
cut_words steps [] = omega arith
cut_words steps (Step step ∷ lines) = omega (arith, cut_words (steps ++ step ∷ []) lines, steps_and steps step)
cut_words steps (End end ∷ lines) =
    let b : MidBlock = record { steps = steps; end = end } in
    let e = sum_by-cons (λ n. n) (block_words b) (map block_words (cut [] lines)) in
    omega (arith, e, cut_words [] lines)

-- ---- what is left has no more words

end_words_same : (new : Numbers) (f : ℕ) (b : MidBlock) → block_words (renumbered_block new f b) ≡ block_words b
end_words_same new f b = by b.end
  where
    by : (e : MidEnd) → block_words (renumbered_block new f (record { steps = b.steps; end = e })) ≡ block_words (record { steps = b.steps; end = e })
    by (Jump to) = refl
    by (Branch test when to) = refl
    by (Call function args result) = refl
    by (Return from) = refl

marked_blocks : (new : Numbers) (f : ℕ) (bs : List Bool) (xs : List MidBlock) → sum (map block_words (map (renumbered_block new f) (marked bs xs))) ≤ sum (map block_words xs)
marked_blocks new f [] xs = omega arith
marked_blocks new f (b ∷ bs) [] = omega arith
marked_blocks new f (true ∷ bs) (x ∷ xs) =
    let e = sum_by-cons (λ n. n) (block_words (renumbered_block new f x)) (map block_words (map (renumbered_block new f) (marked bs xs))) in
    let g = sum_by-cons (λ n. n) (block_words x) (map block_words xs) in
    omega (arith, e, g, end_words_same new f x, marked_blocks new f bs xs)
marked_blocks new f (false ∷ bs) (x ∷ xs) =
    let g = sum_by-cons (λ n. n) (block_words x) (map block_words xs) in
    omega (arith, g, marked_blocks new f bs xs)

marked_functions : (marks : List (List Bool)) (i : ℕ) (bs : List Bool) (fs : List MidFunction) → sum (map function_words (marked bs (pruned_from marks i fs))) ≤ sum (map function_words fs)
marked_functions marks i [] fs = omega arith
marked_functions marks i (b ∷ bs) [] = omega arith
marked_functions marks i (true ∷ bs) (f ∷ fs) =
    let e = sum_by-cons (λ n. n) (function_words (pruned_function marks i f)) (map function_words (marked bs (pruned_from marks (suc i) fs))) in
    let g = sum_by-cons (λ n. n) (function_words f) (map function_words fs) in
    omega (arith, e, g, marked_blocks (numbers_of marks) i (marks_of marks i) f.blocks, marked_functions marks (suc i) bs fs)
marked_functions marks i (false ∷ bs) (f ∷ fs) =
    let g = sum_by-cons (λ n. n) (function_words f) (map function_words fs) in
    omega (arith, g, marked_functions marks (suc i) bs fs)

pub pruned_words : (marks : List (List Bool)) (mid : Mid) → program_words (pruned marks mid) ≤ program_words mid
pruned_words marks mid = omega (arith, marked_functions marks 0 (function_marks marks) mid.functions)

-- ---- functions

defined_name : (name : ℕ) (items : List TopItem) (f : Function) → function_named name items ≡ Some f → list_any (defines name) items ≡ true
defined_name name [] f h = cc
defined_name name (item.Globals gs ∷ items) f h = defined_name name items f h
defined_name name (item.Function g ∷ items) f h = by (g.name == name && has_body g.body) h (defined_name name items f)
  where
    by : (b : Bool) → cond b (Some g) (function_named name items) ≡ Some f → (function_named name items ≡ Some f → list_any (defines name) items ≡ true) → (b || list_any (defines name) items) ≡ true
    by true e ih = refl
    by false e ih = ih e

callee_cost : (names : Names) (items : List TopItem) (number : ℕ → ℕ) (name : ℕ) → callee_blocks (callee_of names items number name) ≤ call_cost items name
callee_cost names items number name = by (name == names.in_word) (name == names.out_word) (function_named name items) refl
  where
    by : (b1 b2 : Bool) (o : Option Function) → function_named name items ≡ o → callee_blocks (if b1 then InWord else (if b2 then OutWord else defined_callee (number name) o)) ≤ call_cost items name
    by true b2 o is = omega arith
    by false true o is = omega arith
    by false false None is = omega arith
    by false false (Some f) is = let one : call_cost items name ≡ 1 = ap (λ (b : Bool). let n : ℕ = if b then 1 else 0 in n) (defined_name name items f is) in omega (arith, one)

module _ (names : Names) (items : List TopItem) where
  body_few : (f : Function) (cs : List Stmt) (to : Context) (b : ℕ) → words (list_lines (map (low_statement (bindings_of names items f)) cs) to b) ≤ 60 * sum (map statement_nodes cs) + 9 * sum (map unlabelled cs)
  body_few f [] to b = omega arith
  body_few f (c ∷ cs) to b =
      let l : LowStmt = low_statement (bindings_of names items f) c in
      let s = words-append (l.lines to b) (list_lines (map (low_statement (bindings_of names items f)) cs) to (b + l.blocks)) in
      let total = sum_by-cons (λ m. m) (statement_nodes c) (map statement_nodes cs) in
      let bare_total = sum_by-cons (λ m. m) (unlabelled c) (map unlabelled cs) in
      let one = (sized_statement items (bindings_of names items f) (callee_cost names items (number_of names items)) c).few to b in
      omega (arith, s, total, bare_total, one, body_few f cs to (b + l.blocks))

  begin_few : (c : Option Counter) → words (begin_lines c) ≤ 100
  begin_few None = omega arith
  begin_few (Some c) = omega arith

  end_few : (c : Option Counter) → words (end_lines c) ≤ 58
  end_few None = omega arith
  end_few (Some c) = omega arith

  fallen_few : (h : Bool) (free : ℕ) → words (fallen_off h free) ≤ 12
  fallen_few true free = omega arith
  fallen_few false free = omega arith

  return_few : (h : Bool) (free : ℕ) → words (End (Return (returned_from h free)) ∷ []) ≤ 11
  return_few true free = omega arith
  return_few false free = omega arith

  -- a function with a body comes to at most 60 words a node, less 149
  function_few : (f : Function) → function_words (low_function names items f) + 149 ≤ 60 * (6 + length f.params + body_nodes (body_of f.body)) + 9 * bare_clauses f
  function_few f =
      let h : Bool = some_of (map returns_value (body_of f.body)) in
      let free : ℕ = free_of f in
      let counter : Option Counter = counter_of items f in
      let l : LowStmt = low_list (map (low_statement (bindings_of names items f)) (body_of f.body)) in
      let last : ℕ = l.blocks + 1 in
      let to : Context = record { breaks_to = 0; continues_to = 0; returns_to = last; free = free } in
      let ending : List Line = end_lines counter ++ End (Return (returned_from h free)) ∷ [] in
      let s1 = words-append (begin_lines counter) (l.lines to 0 ++ (fallen_off h free ++ (End (Jump last) ∷ ending))) in
      let s2 = words-append (l.lines to 0) (fallen_off h free ++ (End (Jump last) ∷ ending)) in
      let s3 = words-append (fallen_off h free) (End (Jump last) ∷ ending) in
      let s4 = words-append (end_lines counter) (End (Return (returned_from h free)) ∷ []) in
      let cuts = cut_words [] (body_lines (bindings_of names items f) h free counter (body_of f.body)) in
      omega (arith, s1, s2, s3, s4, cuts, begin_few counter, end_few counter, fallen_few h free, return_few h free, body_few f (body_of f.body) to 0)

  -- ---- the program

  abbrev cost_of : Function → ℕ
  cost_of f = function_words (low_function names items f)

  filtered : (p : Function → Bool) (fs : List Function) → sum (map cost_of (filter p fs ++ filter (λ f. not (p f)) fs)) ≤ sum (map cost_of fs)
  filtered p fs = omega (arith, split (filter p fs) (filter (λ f. not (p f)) fs), parts fs)
    where
      split : (xs ys : List Function) → sum (map cost_of (xs ++ ys)) ≡ sum (map cost_of xs) + sum (map cost_of ys)
      split [] ys = omega arith
      split (x ∷ xs) ys =
          let e = sum_by-cons (λ n. n) (cost_of x) (map cost_of (xs ++ ys)) in
          let g = sum_by-cons (λ n. n) (cost_of x) (map cost_of xs) in
          omega (arith, e, g, split xs ys)

      parts : (xs : List Function) → sum (map cost_of (filter p xs)) + sum (map cost_of (filter (λ f. not (p f)) xs)) ≤ sum (map cost_of xs)
      parts [] = omega arith
      parts (x ∷ xs) = by (p x) (parts xs)
        where
          some : List Function
          some = filter p xs

          rest : List Function
          rest = filter (λ f. not (p f)) xs

          by : (b : Bool) → sum (map cost_of some) + sum (map cost_of rest) ≤ sum (map cost_of xs) → sum (map cost_of (cond b (x ∷ some) some)) + sum (map cost_of (cond (not b) (x ∷ rest) rest)) ≤ sum (map cost_of (x ∷ xs))
          by true ih = let e = sum_by-cons (λ n. n) (cost_of x) (map cost_of some) in let g = sum_by-cons (λ n. n) (cost_of x) (map cost_of xs) in omega (arith, e, g, ih)
          by false ih = let e = sum_by-cons (λ n. n) (cost_of x) (map cost_of rest) in let g = sum_by-cons (λ n. n) (cost_of x) (map cost_of xs) in omega (arith, e, g, ih)

  some_body : List Function → ℕ
  some_body [] = 0
  some_body (f ∷ fs) = 1

  -- the functions of a list of items
  items_few : (xs : List TopItem) → sum (map cost_of (filter (λ f. has_body f.body) (functions xs))) + 149 * length (filter (λ f. has_body f.body) (functions xs)) ≤ 60 * sum (map item_nodes xs) + 9 * sum (map bare_clauses (filter (λ f. has_body f.body) (functions xs)))
  items_few [] = omega arith
  items_few (item.Globals gs ∷ xs) = let e = sum_by-cons (λ n. n) (item_nodes (item.Globals gs)) (map item_nodes xs) in omega (arith, e, items_few xs)
  items_few (item.Function f ∷ xs) = by f.body refl (items_few xs)
    where
      rest : List Function
      rest = filter (λ g. has_body g.body) (functions xs)

      by : (o : Option (List Stmt)) → f.body ≡ o → sum (map cost_of rest) + 149 * length rest ≤ 60 * sum (map item_nodes xs) + 9 * sum (map bare_clauses rest)
          → sum (map cost_of (cond (has_body o) (f ∷ rest) rest)) + 149 * length (cond (has_body o) (f ∷ rest) rest) ≤ 60 * sum (map item_nodes (item.Function f ∷ xs)) + 9 * sum (map bare_clauses (cond (has_body o) (f ∷ rest) rest))
      by None is ih = let e = sum_by-cons (λ n. n) (item_nodes (item.Function f)) (map item_nodes xs) in omega (arith, e, ih)
      by (Some body) is ih =
          let e = sum_by-cons (λ n. n) (item_nodes (item.Function f)) (map item_nodes xs) in
          let g = sum_by-cons (λ n. n) (cost_of f) (map cost_of rest) in
          let b = sum_by-cons (λ n. n) (bare_clauses f) (map bare_clauses rest) in
          let nodes : function_nodes f.body f.params ≡ 6 + length f.params + body_nodes (body_of f.body) = subst (λ o. function_nodes o f.params ≡ 6 + length f.params + body_nodes (body_of o)) (sym is) refl in
          omega (arith, e, g, b, nodes, function_few f, ih)

low_costs : (names : Names) (items : List TopItem) (fs : List Function) → sum (map function_words (map (low_function names items) fs)) ≡ sum (map (cost_of names items) fs)
low_costs names items [] = refl
low_costs names items (f ∷ fs) =
    let e = sum_by-cons (λ n. n) (function_words (low_function names items f)) (map function_words (map (low_function names items) fs)) in
    let g = sum_by-cons (λ n. n) (cost_of names items f) (map (cost_of names items) fs) in
    omega (arith, e, g, low_costs names items fs)

-- a program with a function that has a body, and a label at each clause, comes to at most 60 words a node
pub few_program_words : (names : Names) (program : Program) (chain_pairs : ℕ) → 1 ≤ length (with_bodies program.items) → sum (map bare_clauses (with_bodies program.items)) ≡ 0 → program_words (low_program names program chain_pairs) ≤ 60 * program_nodes program
few_program_words names program chain_pairs some labelled =
    let items : List TopItem = program.items in
    let total : ℕ = sum (map (cost_of names items) (in_number_order names.main items)) in
    let all : ℕ = sum (map (cost_of names items) (with_bodies items)) in
    let few : all + 149 * length (with_bodies items) ≤ 60 * program_nodes program + 9 * sum (map bare_clauses (with_bodies items)) = items_few names items items in
    let ordered : total ≤ all = filtered names items (λ f. f.name == names.main) (with_bodies items) in
    let same : program_words (low_program names program chain_pairs) ≡ 27 + total = ap (λ n. 27 + n) (low_costs names items (in_number_order names.main items)) in
    omega (arith, some, labelled, few, ordered, same)

-- and so does what is left of it
pub few_pruned_words : (names : Names) (program : Program) (chain_pairs : ℕ) (marks : List (List Bool)) → 1 ≤ length (with_bodies program.items) → sum (map bare_clauses (with_bodies program.items)) ≡ 0 → program_words (pruned marks (low_program names program chain_pairs)) ≤ 60 * program_nodes program
few_pruned_words names program chain_pairs marks some labelled = omega (arith, pruned_words marks (low_program names program chain_pairs), few_program_words names program chain_pairs some labelled)
