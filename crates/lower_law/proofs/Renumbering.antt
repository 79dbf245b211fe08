-- A program whose unreached blocks and functions are left out runs as before, step by step.
use Rattle.std.proofs.Common.{◌≡◌, ℕ, zero, suc, ◌+◌, Bool, true, false, List, [], ◌∷◌, map, sum, length, Option, Some, None, Result, Ok, Err, refl, sym, ap, ◌∙◌, subst, if◌then◌else◌, ◌==◌, arith}
use Rattle.std.specs.Prelude.{slice_get, nat_lt}
use Rattle.std.specs.List.{AllByRecursion}
use Rattle.mid_blocks.specs.declared.code.MidStep.{MidStep}
use Rattle.mid_blocks.specs.declared.code.MidStep.TheVariants.{Constant, Copy, Operate, Guard, Load, Store, Input, Output, Deep}
use Rattle.mid_blocks.specs.declared.code.MidEnd.{MidEnd}
use Rattle.mid_blocks.specs.declared.code.MidEnd.TheVariants.{Jump, Branch, Call, Return}
use Rattle.mid_blocks.specs.declared.code.MidFunction.{MidFunction}
use Rattle.mid_blocks.specs.declared.code.Mid.{Mid}
use Rattle.mid_blocks.specs.declared.code.RunEnd.{RunEnd}
use Rattle.mid_blocks.specs.declared.code.RunEnd.TheVariants.{Trapped}
use Rattle.mid_blocks.specs.Lines.{Line, Step, End}
use Rattle.mid_blocks.specs.Run.{Active, BlockState, word_in, index_in, operate, global_in, passes, ends, sets_or_traps, takes_in, do_step, is_taken, returns, do_end, do_line, line_in_function, next_line, unless_ended, block_step, after, first_state, block_state, block_run, seen, Variables}
use Rattle.mid_blocks.specs.Bounds.{Proper, ProperLine, Shallow, pairs_of, pairs_now}
use Rattle.hard_runs.specs.Observed.{Observation, Prefix, SameObserved}
use Rattle.mid_blocks.specs.Renumbered.{Numbers, renumbered_end, renumbered_line, line_of, Renumbered}

module _ (one two : Mid) (new : Numbers) (Kept : ℕ → ℕ → Type 0) (r : Renumbered one two new Kept) where
  abbrev moved : Active → Active
  moved call = record call { function = new.function call.function; block = new.block call.function call.block }

  abbrev moved_state : BlockState → BlockState
  moved_state s = record s { current = moved s.current; callers = map moved s.callers }

  abbrev Stays : BlockState → Type 0
  Stays s = Kept s.current.function s.current.block × AllByRecursion (λ (c : Active). Kept c.function c.block) s.callers

  -- a line of a function doesn't depend on the variables
  line_is : (f : Option MidFunction) (call : Active) → line_in_function f call ≡ line_in_function f (record { function = call.function; block = call.block; step = call.step; variables = λ v. None; result = None })
  line_is None call = refl
  line_is (Some f) call = refl

  step_same : (step : MidStep) (s : BlockState) → do_step step (moved_state s) ≡ moved_state (do_step step s)
  step_same (Constant to word) s = refl
  step_same (Copy to from) s = refl
  step_same (Operate op to left right) s = by (operate op (word_in s.current.variables left) (word_in s.current.variables right))
    where
      by : (x : Result ℕ ℕ) → sets_or_traps (moved_state s) to x ≡ moved_state (sets_or_traps s to x)
      by (Ok w) = refl
      by (Err trap) = refl
  step_same (Guard global index) s = by (nat_lt (word_in s.current.variables index) (length (global_in s.globals global)))
    where
      by : (b : Bool) → (if b then passes (moved_state s) else ends (moved_state s) (Trapped 8)) ≡ moved_state (if b then passes s else ends s (Trapped 8))
      by true = refl
      by false = refl
  step_same (Load to global index) s = refl
  step_same (Store global index from) s = refl
  step_same (Input to) s = by s.feed
    where
      by : (l : List ℕ) → takes_in (moved_state s) to l ≡ moved_state (takes_in s to l)
      by [] = refl
      by (w ∷ rest) = refl
  step_same (Output from) s = refl
  step_same (Deep test) s = by (word_in s.current.variables test == 0)
    where
      by : (b : Bool) → (if b then ends (moved_state s) (Trapped 9) else passes (moved_state s)) ≡ moved_state (if b then ends s (Trapped 9) else passes s)
      by true = refl
      by false = refl

  step_stays : (step : MidStep) (s : BlockState) → Stays s → Stays (do_step step s)
  step_stays (Constant to word) s h = h
  step_stays (Copy to from) s h = h
  step_stays (Operate op to left right) s h = by (operate op (word_in s.current.variables left) (word_in s.current.variables right))
    where
      by : (x : Result ℕ ℕ) → Stays (sets_or_traps s to x)
      by (Ok w) = h
      by (Err trap) = h
  step_stays (Guard global index) s h = by (nat_lt (word_in s.current.variables index) (length (global_in s.globals global)))
    where
      by : (b : Bool) → Stays (if b then passes s else ends s (Trapped 8))
      by true = h
      by false = h
  step_stays (Load to global index) s h = h
  step_stays (Store global index from) s h = h
  step_stays (Input to) s h = by s.feed
    where
      by : (l : List ℕ) → Stays (takes_in s to l)
      by [] = h
      by (w ∷ rest) = h
  step_stays (Output from) s h = h
  step_stays (Deep test) s h = by (word_in s.current.variables test == 0)
    where
      by : (b : Bool) → Stays (if b then ends s (Trapped 9) else passes s)
      by true = h
      by false = h

  pub record Locked (s s1 s2 : BlockState) : Type 0 where
    pub same : s1 ≡ moved_state s2
    pub stays : Stays s2

  abbrev here : BlockState → MidEnd → Type 0
  here s end = line_of one s.current.function s.current.block s.current.step ≡ Some (End end)

  end_locked : (end : MidEnd) (s : BlockState) → Stays s → here s end → Locked s (do_end (renumbered_end new s.current.function end) (moved_state s)) (do_end end s)
  end_locked (Jump to) s h is = record { same = refl; stays = (r.goes s.current.function s.current.block s.current.step to (Jump to) h.0 is refl, h.1) }
  end_locked (Branch test when to) s h is = by (is_taken when (word_in s.current.variables test))
    where
      next : Kept s.current.function (s.current.block + 1) × (new.block s.current.function (s.current.block + 1) ≡ new.block s.current.function s.current.block + 1)
      next = r.falls s.current.function s.current.block s.current.step (Branch test when to) h.0 is refl

      by : (b : Bool) → Locked s (record (moved_state s) { current = record (moved s.current) { block = (if b then new.block s.current.function to else (new.block s.current.function s.current.block + 1)); step = 0 } }) (record s { current = record s.current { block = (if b then to else (s.current.block + 1)); step = 0 } })
      by true = record { same = refl; stays = (r.goes s.current.function s.current.block s.current.step to (Branch test when to) h.0 is refl, h.1) }
      by false = record { same = ap (λ n. let m : BlockState = record (moved_state s) { current = record (moved s.current) { block = n; step = 0 } } in m) (sym next.1); stays = (next.0, h.1) }
  end_locked (Call function args result) s h is =
      let next = r.falls s.current.function s.current.block s.current.step (Call function args result) h.0 is refl in
      let callee = r.calls s.current.function s.current.block s.current.step function args result h.0 is in
      let words : List ℕ = map (word_in s.current.variables) args in
      record {
        same = ap (λ n. let m : BlockState = record (moved_state s) { current = record { function = new.function function; block = 0; step = 0; variables = slice_get words; result = result }; callers = record (moved s.current) { block = n; step = 0 } ∷ map moved s.callers } in m) (sym next.1)
            ∙ ap (λ n. let m : BlockState = record (moved_state s) { current = record { function = new.function function; block = n; step = 0; variables = slice_get words; result = result }; callers = record (moved s.current) { block = new.block s.current.function (s.current.block + 1); step = 0 } ∷ map moved s.callers } in m) (sym (r.begins function callee));
        stays = (callee, (next.0, h.1));
      }
  end_locked (Return from) s h is = by s.callers h.1
    where
      by : (l : List Active) → AllByRecursion (λ (c : Active). Kept c.function c.block) l → Locked s (returns (moved_state s) (map moved l) (index_in s.current.variables from)) (returns s l (index_in s.current.variables from))
      by [] k = record { same = refl; stays = h }
      by (c ∷ cs) k = record { same = refl; stays = (k.0, k.1) }

  line_locked : (line : Option Line) (s : BlockState) → Stays s → line_of one s.current.function s.current.block s.current.step ≡ line → Locked s (do_line (renumbered_line new s.current.function line) (moved_state s)) (do_line line s)
  line_locked None s h is = record { same = refl; stays = h }
  line_locked (Some (Step step)) s h is = record { same = step_same step s; stays = step_stays step s h }
  line_locked (Some (End end)) s h is = end_locked end s h is

  next_same : (s : BlockState) → Stays s → next_line two (moved_state s) ≡ renumbered_line new s.current.function (line_of one s.current.function s.current.block s.current.step)
  next_same s h = line_is (slice_get two.functions (new.function s.current.function)) (moved s.current) ∙ r.lines s.current.function s.current.block s.current.step h.0

  step_locked : (s : BlockState) → Stays s → Locked s (block_step two (moved_state s)) (block_step one s)
  step_locked s h = by s.end
    where
      by : (e : Option RunEnd) → Locked s (unless_ended e (moved_state s) (do_line (next_line two (moved_state s)) (moved_state s))) (unless_ended e s (do_line (next_line one s) s))
      by (Some e) = record { same = refl; stays = h }
      by None =
          let l = line_of one s.current.function s.current.block s.current.step in
          let is : next_line one s ≡ l = line_is (slice_get one.functions s.current.function) s.current in
          let x = line_locked l s h refl in
          subst (λ y. Locked s (do_line (next_line two (moved_state s)) (moved_state s)) (do_line y s)) (sym is)
          (subst (λ y. Locked s (do_line y (moved_state s)) (do_line l s)) (sym (next_same s h)) x)

  pub after_locked : (n : ℕ) (s : BlockState) → Stays s → after two n (moved_state s) ≡ moved_state (after one n s)
  after_locked zero s h = refl
  after_locked (suc n) s h = let x = step_locked s h in ap (after two n) x.same ∙ after_locked n (block_step one s) x.stays

  pub stays_on : (n : ℕ) (s : BlockState) → Stays s → Stays (after one n s)
  stays_on zero s h = h
  stays_on (suc n) s h = stays_on n (block_step one s) (step_locked s h).stays

  start_same : (input : List ℕ) → first_state two input ≡ moved_state (first_state one input)
  start_same input =
      let s = first_state one input in
      ap (λ gs. let m : BlockState = record (first_state one input) { globals = gs } in m) r.globals_are
      ∙ ap (λ f. let m : BlockState = record s { current = record s.current { function = f } } in m) (sym r.main_is)
      ∙ ap (λ b. let m : BlockState = record s { current = record s.current { function = new.function 0; block = b } } in m) (sym (r.begins 0 r.main_kept))

  -- each state is the other's under new numbers
  pub state_same : (input : List ℕ) (n : ℕ) → block_state two input n ≡ moved_state (block_state one input n)
  state_same input n = ap (after two n) (start_same input) ∙ after_locked n (first_state one input) (r.main_kept, tt)

  pub state_stays : (input : List ℕ) (n : ℕ) → Stays (block_state one input n)
  state_stays input n = stays_on n (first_state one input) (r.main_kept, tt)

  -- the run is the same, after each number of steps
  pub run_same : (input : List ℕ) (n : ℕ) → block_run two input n ≡ block_run one input n
  run_same input n = ap seen (state_same input n)

  pub keeps_same : (high : Observation RunEnd) (input : List ℕ) → SameObserved (block_run one input) high → SameObserved (block_run two input) high
  keeps_same high input h = record {
    no_more = λ n. subst (λ x. Prefix x.output (high n).output) (sym (run_same input n)) (h.no_more n);
    ends = λ n e is. let same = run_same input n in let x = h.ends n e (ap (λ y. y.end) (sym same) ∙ is) in (x.0, x.1 ∙ ap (λ y. y.output) (sym same));
    comes = λ n. let x = h.comes n in (x.0, subst (λ y. Prefix (high n).output y.output) (sym (run_same input x.0)) x.1);
    finishes = λ n e is. let x = h.finishes n e is in let same = run_same input x.0 in (x.0, ap (λ y. y.end) same ∙ x.1, ap (λ y. y.output) same ∙ x.2);
  }

  -- the line that comes next reads the same, and is as proper
  line_proper : (f : ℕ) (line : Line) (line' : Line) (variables : Variables) (globals : List (List ℕ)) → renumbered_line new f (Some line) ≡ Some line' → ProperLine line variables globals → ProperLine line' variables globals
  line_proper f (Step step) line' variables globals e p = let same : Step step ≡ line' = cc in subst (λ l. ProperLine l variables globals) same p
  line_proper f (End end) line' variables globals e p = let same : End (renumbered_end new f end) ≡ line' = cc in subst (λ l. ProperLine l variables globals) same (by end p)
    where
      by : (end' : MidEnd) → ProperLine (End end') variables globals → ProperLine (End (renumbered_end new f end')) variables globals
      by (Jump to) q = record { reads_written = q.reads_written; index_fits = tt }
      by (Branch test when to) q = record { reads_written = q.reads_written; index_fits = tt }
      by (Call function args result) q = record { reads_written = q.reads_written; index_fits = tt }
      by (Return from) q = record { reads_written = q.reads_written; index_fits = tt }

  pub keeps_proper : Proper one → Proper two
  keeps_proper proper input n line' words running is =
      let s = block_state one input n in
      let same = state_same input n in
      let stays = state_stays input n in
      let going : s.end ≡ None = ap (λ x. x.end) (sym same) ∙ running in
      let line_one = line_of one s.current.function s.current.block s.current.step in
      let next_is : next_line one s ≡ line_one = line_is (slice_get one.functions s.current.function) s.current in
      let e : renumbered_line new s.current.function line_one ≡ Some line' = sym (next_same s stays) ∙ ap (next_line two) (sym same) ∙ is in
      subst (λ (x : BlockState). ProperLine line' x.current.variables x.globals) (sym same) (by line_one next_is e)
    where
      by : (o : Option Line) → next_line one (block_state one input n) ≡ o → renumbered_line new (block_state one input n).current.function o ≡ Some line' → ProperLine line' (block_state one input n).current.variables (block_state one input n).globals
      by None at e = cc
      by (Some line) at e =
          let s = block_state one input n in
          line_proper s.current.function line line' s.current.variables s.globals e (proper input n line words (ap (λ x. x.end) (sym (state_same input n)) ∙ running) at)

  calls_pairs_same : (calls : List Active) → AllByRecursion (λ (c : Active). Kept c.function c.block) calls → map (λ (c : Active). pairs_of (slice_get two.functions c.function)) (map moved calls) ≡ map (λ (c : Active). pairs_of (slice_get one.functions c.function)) calls
  calls_pairs_same [] h = refl
  calls_pairs_same (c ∷ cs) h = ap (λ n. n ∷ map (λ (x : Active). pairs_of (slice_get two.functions x.function)) (map moved cs)) (r.pairs_are c.function c.block h.0) ∙ ap (λ l. pairs_of (slice_get one.functions c.function) ∷ l) (calls_pairs_same cs h.1)

  pub keeps_shallow : Shallow one → Shallow two
  keeps_shallow shallow input n words =
      let s = block_state one input n in
      let stays = state_stays input n in
      let now : pairs_now two (block_state two input n) ≡ pairs_now one s = ap (pairs_now two) (state_same input n) ∙ ap sum (calls_pairs_same (s.current ∷ s.callers) (stays.0, stays.1)) in
      let room = shallow input n words in
      let chain = r.chain_pairs_are in
      omega (arith, now, room, chain)
