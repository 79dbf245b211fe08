-- A program of which no function that is left reaches itself uses only the variables at file scope, and stays valid without the counter.
use Rattle.std.proofs.Common.{◌≡◌, ℕ, zero, suc, ◌+◌, ◌<◌, ◌≤◌, Bool, true, false, List, [], ◌∷◌, ◌++◌, map, sum, length, take, Option, Some, None, refl, sym, ap, ◌∙◌, subst, arith, option_map, if◌then◌else◌}
use Rattle.std.specs.Prelude.{slice_get, nat_lt}
use Rattle.std.specs.List.{Any}
use Rattle.std.proofs.lemmas.Bool.{false≢true, ltb-true}
use Rattle.std.proofs.lemmas.List.{length-map}
use Rattle.std.proofs.lemmas.Option.{slice_get-map}
use Rattle.c_syntax.specs.declared.tree.Stmt.{Stmt}
use Rattle.c_syntax.specs.declared.tree.Function.{Function}
use Rattle.c_syntax.specs.declared.tree.TopItem.{TopItem}
use Rattle.c_syntax.specs.declared.tree.Program.{Program}
use Rattle.c_syntax.specs.Sizes.{greatest}
use Rattle.c_syntax.specs.Costs.{statement_temps}
use Rattle.c_meaning.specs.Run.{Global}
use Rattle.c_syntax.specs.Graph.{function_named, body_of, is_recursive}
use Rattle.c_meaning.specs.Meaning.{Names, globals}
use Rattle.mid_blocks.specs.declared.code.MidStep.{MidStep}
use Rattle.mid_blocks.specs.declared.code.MidEnd.TheVariants.{Jump, Return}
use Rattle.mid_blocks.specs.declared.code.MidBlock.{MidBlock}
use Rattle.mid_blocks.specs.declared.code.MidFunction.{MidFunction}
use Rattle.mid_blocks.specs.declared.code.Mid.{Mid}
use Rattle.mid_blocks.specs.Lines.{Line, Step, End, block_lines}
use Rattle.mid_blocks.specs.Valid.{IsUsed, step_global}
use Rattle.mid_blocks.specs.Tested.{is_below}
use Rattle.lower_rules.specs.Bindings.{Bindings}
use Rattle.lower_rules.specs.Statements.{Context, LowStmt, low_list, low_statement}
use Rattle.lower_rules.specs.Functions.{Counter, begin_lines, end_lines, fallen_off, returned_from}
use Rattle.lower_rules.specs.Programs.{variables_of, some_of, returns_value, in_number_order, shape_of, shapes, object_words, any_recursive, bindings_of, free_of, counter_of, low_function, low_program}
use Rattle.mid_blocks.specs.Pruned.{is_marked_block, function_marks, marked, marks_of, numbers_of, renumbered_block, pruned_function, pruned_from, pruned}
use Rattle.lower_rules.specs.Fitting.{param_names, has_value_in, Fitting}
use Rattle.lower_law.proofs.Places.{place_below}
use Rattle.lower_law.proofs.Pruning.{function_mark, pruned_at}
use Rattle.lower_valid_law.proofs.Clean.{line_odd, odds, symbol_there}
use Rattle.lower_valid_law.proofs.TidyStatements.{body_clean_lines}
use Rattle.lower_valid_law.proofs.Blocks.{odds-append, block_odd}
use Rattle.lower_valid_law.proofs.Kept.{source}
use Rattle.lower_valid_law.proofs.PrunedFunction.{any_at}
use Rattle.lower_calls_law.specs.LoweringChainsLaws.{OneEach}
use Rattle.lower_checked.specs.Counter.{NoneRecursive, CounterUnused, TrimmedIsValid}

-- ---- lines

-- of calls nothing is asked
abbrev any_call : ℕ → ℕ → Bool
any_call function count = true

abbrev odd : ℕ → List Line → ℕ
odd count ls = odds count any_call ls

begin_even : (count : ℕ) (r : Bool) (c : Counter) → r ≡ false → odd count (begin_lines (if r then Some c else None)) ≡ 0
begin_even count true c h = absurd (false≢true (sym h))
begin_even count false c h = refl

end_even : (count : ℕ) (r : Bool) (c : Counter) → r ≡ false → odd count (end_lines (if r then Some c else None)) ≡ 0
end_even count true c h = absurd (false≢true (sym h))
end_even count false c h = refl

fallen_even : (count : ℕ) (b : Bool) (free : ℕ) → odd count (fallen_off b free) ≡ 0
fallen_even count true free = refl
fallen_even count false free = refl

step_even : (count : ℕ) (steps : List MidStep) (rest : List Line) (i : ℕ) (s : MidStep) → slice_get steps i ≡ Some s → line_odd count any_call (Step s) ≤ odd count (map Step steps ++ rest)
step_even count [] rest i s h = absurd (cc)
step_even count (x ∷ steps) rest zero s h = let same : x ≡ s = cc in omega (arith, ap (λ (y : MidStep). line_odd count any_call (Step y)) same)
step_even count (x ∷ steps) rest (suc i) s h = omega (arith, step_even count steps rest i s h)

below_even : (count : ℕ) (s : MidStep) (g : ℕ) → step_global s ≡ Some g → line_odd count any_call (Step s) ≤ 1 → g < count
below_even count s g is h = by (nat_lt g count) refl (subst (λ o. (let n : ℕ = if is_below count o then 0 else 2 in n) ≤ 1) is h)
  where
    by : (b : Bool) → nat_lt g count ≡ b → (let n : ℕ = if nat_lt g count then 0 else 2 in n) ≤ 1 → g < count
    by true e le = ltb-true g count e
    by false e le = absurd (omega (arith, ap (λ (b : Bool). let n : ℕ = if b then 0 else 2 in n) e, le))

-- ---- a function that doesn't reach itself

module _ (names : Names) (items : List TopItem) (ok : Fitting names items) (f : Function) (f_is : function_named f.name items ≡ Some f) (plain : is_recursive items f.name ≡ false) where
  abbrev count : ℕ
  count = length (globals items)

  plain_even : (n : ℕ) (b : MidBlock) → slice_get (low_function names items f).blocks n ≡ Some b → odd count (block_lines b) ≤ 1
  plain_even n b at =
      let binds : Bindings = bindings_of names items f in
      let body : List Stmt = body_of f.body in
      let value : Bool = some_of (map returns_value body) in
      let free : ℕ = free_of f in
      let counter : Counter = record { global = length (globals items); spare = free + greatest (map statement_temps body) } in
      let c : LowStmt = low_list (map (low_statement binds) body) in
      let last : ℕ = c.blocks + 1 in
      let context : Context = record { breaks_to = 0; continues_to = 0; returns_to = last; free = free } in
      let begin : List Line = begin_lines (counter_of items f) in
      let front : List Line = c.lines context 0 in
      let fallen : List Line = fallen_off value free in
      let ending : List Line = end_lines (counter_of items f) in
      let return_ : Line = End (Return (returned_from value free)) in
      let below : (name v : ℕ) → binds.variable name ≡ Some v → v < free = λ name v h. omega (arith, place_below name 0 v (variables_of f) h) in
      let enough : length (shapes items) ≤ count = omega (arith, length-map (globals items) shape_of) in
      let clean = body_clean_lines count any_call free binds (symbol_there count any_call free binds below enough) (λ name number arity void u h. refl) below body (record { breaks = false; continues = false; returns = has_value_in f }) (param_names f.params ∷ []) (ok.body_fits f.name f f_is) context 0 (omega arith) in
      omega (
        arith,
        block_odd count any_call n [] (begin ++ (front ++ (fallen ++ (End (Jump last) ∷ (ending ++ return_ ∷ []))))) b at,
        odds-append count any_call begin (front ++ (fallen ++ (End (Jump last) ∷ (ending ++ return_ ∷ [])))),
        odds-append count any_call front (fallen ++ (End (Jump last) ∷ (ending ++ return_ ∷ []))),
        odds-append count any_call fallen (End (Jump last) ∷ (ending ++ return_ ∷ [])),
        odds-append count any_call ending (return_ ∷ []),
        begin_even count (is_recursive items f.name) counter plain,
        clean.no_odd,
        fallen_even count value free,
        end_even count (is_recursive items f.name) counter plain,
      )

-- ---- what is left

module _ (names : Names) (program : Program) (chain_pairs : ℕ) (marks : List (List Bool)) (ok : Fitting names program.items) (one_each : OneEach names program.items) (none : NoneRecursive names program marks) where
  abbrev items : List TopItem
  items = program.items

  abbrev mid : Mid
  mid = low_program names program chain_pairs

  -- a block that is left has the steps of one of a function that doesn't reach itself
  block_even : (x k : ℕ) (p : MidFunction) (b' : MidBlock) → slice_get (pruned marks mid).functions x ≡ Some p → slice_get p.blocks k ≡ Some b' → (b : MidBlock) × (b.steps ≡ b'.steps) × (odd (length (globals items)) (block_lines b) ≤ 1)
  block_even x k p b' h at =
      let s = source (function_marks marks) (pruned_from marks 0 mid.functions) x p h in
      in_program s.at (sym (function_mark marks s.at) ∙ s.kept) (slice_get (in_number_order names.main items) s.at) refl
      (ap (option_map (pruned_function marks s.at)) (sym (slice_get-map (low_function names items) (in_number_order names.main items) s.at)) ∙ sym (pruned_at marks 0 s.at s.at mid.functions (omega arith)) ∙ s.is)
    where
      in_function : (j : ℕ) (f : Function) → slice_get (in_number_order names.main items) j ≡ Some f → is_marked_block marks j 0 ≡ true → (o : Option MidBlock) (n : ℕ) → slice_get (low_function names items f).blocks n ≡ o → option_map (renumbered_block (numbers_of marks) j) o ≡ Some b' → (b : MidBlock) × (b.steps ≡ b'.steps) × (odd (length (globals items)) (block_lines b) ≤ 1)
      in_function j f is m None n e r = absurd (cc)
      in_function j f is m (Some b) n e r =
          let same : renumbered_block (numbers_of marks) j b ≡ b' = cc in
          (b, ap (λ (y : MidBlock). y.steps) same, plain_even names items ok f (one_each j f is) (none j f is m) n b e)

      in_code : (j : ℕ) (f : Function) → slice_get (in_number_order names.main items) j ≡ Some f → is_marked_block marks j 0 ≡ true → pruned_function marks j (low_function names items f) ≡ p → (b : MidBlock) × (b.steps ≡ b'.steps) × (odd (length (globals items)) (block_lines b) ≤ 1)
      in_code j f is m e =
          let low : List MidBlock = (low_function names items f).blocks in
          let there : slice_get (map (renumbered_block (numbers_of marks) j) (marked (marks_of marks j) low)) k ≡ Some b' = ap (λ (y : MidFunction). slice_get y.blocks k) e ∙ at in
          in_kept j f is m (slice_get (marked (marks_of marks j) low) k) refl (sym (slice_get-map (renumbered_block (numbers_of marks) j) (marked (marks_of marks j) low) k) ∙ there)
        where
          in_kept : (j : ℕ) (f : Function) → slice_get (in_number_order names.main items) j ≡ Some f → is_marked_block marks j 0 ≡ true → (o : Option MidBlock) → slice_get (marked (marks_of marks j) (low_function names items f).blocks) k ≡ o → option_map (renumbered_block (numbers_of marks) j) o ≡ Some b' → (b : MidBlock) × (b.steps ≡ b'.steps) × (odd (length (globals items)) (block_lines b) ≤ 1)
          in_kept j f is m None e r = absurd (cc)
          in_kept j f is m (Some b) e r =
              let s = source (marks_of marks j) (low_function names items f).blocks k b e in
              in_function j f is m (Some b) s.at s.is r

      in_program : (j : ℕ) → is_marked_block marks j 0 ≡ true → (o : Option Function) → slice_get (in_number_order names.main items) j ≡ o → option_map (pruned_function marks j) (option_map (low_function names items) o) ≡ Some p → (b : MidBlock) × (b.steps ≡ b'.steps) × (odd (length (globals items)) (block_lines b) ≤ 1)
      in_program j m None is e = absurd (cc)
      in_program j m (Some f) is e = let same : pruned_function marks j (low_function names items f) ≡ p = cc in in_code j f is m same

  used_below : (global : ℕ) → IsUsed (pruned marks mid) global → global < length (globals items)
  used_below global used =
      let f = any_at (λ (x : MidFunction). Any (λ b. Any (λ step. step_global step ≡ Some global) b.steps) x.blocks) (pruned marks mid).functions used in
      let b = any_at (λ (x : MidBlock). Any (λ step. step_global step ≡ Some global) x.steps) f.1.blocks f.3 in
      let s = any_at (λ step. step_global step ≡ Some global) b.1.steps b.3 in
      let o = block_even f.0 b.0 f.1 b.1 f.2 b.2 in
      let there : slice_get o.0.steps s.0 ≡ Some s.1 = ap (λ (x : List MidStep). slice_get x s.0) o.1 ∙ s.2 in
      let one = step_even (length (globals items)) o.0.steps (End o.0.end ∷ []) s.0 s.1 there in
      below_even (length (globals items)) s.1 global s.3 (omega (arith, one, o.2))

pub counter_unused : CounterUnused
counter_unused names program chain_pairs marks ok one_each none global used = used_below names program chain_pairs marks ok one_each none global used

-- ---- without the counter

take_map : {A B : Type 0} (f : A → B) (xs : List A) (ys : List B) → take (length xs) (map f xs ++ ys) ≡ map f xs
take_map f [] ys = refl
take_map f (x ∷ xs) ys = ap (λ l. f x ∷ l) (take_map f xs ys)

pub trimmed_is_valid : TrimmedIsValid
trimmed_is_valid names program smaller chain_pairs marks ok one_each none v fits =
    let items : List TopItem = program.items in
    let words : Global → List ℕ = λ g. object_words g.object in
    let extra : List (List ℕ) = if any_recursive items then (0 ∷ []) ∷ [] else [] in
    let e : take (length (globals items)) (map (λ g. object_words g.object) (globals items) ++ extra) ≡ map (λ g. object_words g.object) (globals items) = take_map (λ g. object_words g.object) (globals items) extra in
    record {
      functions_valid = v.functions_valid;
      main_fits = v.main_fits;
      globals_exist = λ global used. subst (λ n. global < n) (sym (ap (λ (l : List (List ℕ)). length l) e ∙ length-map (globals items) (λ g. object_words g.object))) (used_below names program chain_pairs marks ok one_each none global used);
      calls_fit = v.calls_fit;
      each_called = v.each_called;
      store_fits = subst (λ (l : List (List ℕ)). sum (map length l) + chain_pairs ≤ 32768) (sym e) fits;
      few_lines = v.few_lines;
    }
