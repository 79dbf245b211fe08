-- The run of a whole program in blocks stands to the run of its tree.
use Rattle.std.proofs.Common.{◌≡◌, ℕ, zero, suc, ◌-◌, ◌≤◌, Bool, true, false, List, [], ◌∷◌, ◌++◌, map, length, Some, None, refl, sym, ap, ◌∙◌, subst, if◌then◌else◌, ◌==◌, arith}
use Rattle.std.specs.Prelude.{slice_get, IsSome}
use Rattle.std.proofs.lemmas.Bool.{ne_eqb}
use Rattle.hard_runs.specs.Observed.{SameObserved}
use Rattle.c_meaning.specs.declared.run.Value.{Value}
use Rattle.c_meaning.specs.declared.run.EvalEnd.{EvalEnd}
use Rattle.c_meaning.specs.declared.run.EvalEnd.TheVariants as c
use Rattle.c_syntax.specs.declared.tree.Function.{Function}
use Rattle.c_syntax.specs.declared.tree.TopItem.{TopItem}
use Rattle.c_syntax.specs.declared.tree.Program.{Program}
use Rattle.c_meaning.specs.Run.{State, Outcome, Gives, Ends, Run, and_then}
use Rattle.c_syntax.specs.Graph.{function_named, is_recursive}
use Rattle.c_meaning.specs.Meaning.{Names, CRan, ran, run_of, globals, first_state as c_first_state, in_body, enter_function, call_at, calls, call_in_word, call_out_word}
use Rattle.mid_blocks.specs.declared.code.MidEnd.TheVariants.{Return}
use Rattle.mid_blocks.specs.declared.code.RunEnd.{RunEnd}
use Rattle.mid_blocks.specs.declared.code.RunEnd.TheVariants as mid
use Rattle.mid_blocks.specs.Lines.{End, line_at, one_or_none}
use Rattle.mid_blocks.specs.Run.{BlockState, Variables, index_in, after, ends, first_state, block_run}
use Rattle.lower_rules.specs.Functions.{returned_from, begin_lines, end_lines}
use Rattle.std.specs.List.{AllByRecursion}
use Rattle.lower_law.proofs.Lines.{Spot, start, past, Stands, stands_front, stands_back}
use Rattle.lower_law.proofs.Machine.{Frame, Setting, machine, Goes, goes_after, Comes, comes_by, comes_on, Does, owed, globals_words}
use Rattle.lower_law.proofs.Globals.{AreSmall, AreSmallGlobals}
use Rattle.lower_law.proofs.Calls.{Plan, Of, fits, BodyAt, all_stands, ending_stands, body_does, last_of, meets, raises, lowers, index_kept, written_kept}
use Rattle.lower_law.proofs.Steps.{block_machine}
use Rattle.lower_rules.specs.Seen.{end_of, c_observed}
use Rattle.lower_rules.specs.Programs.{shape_of}
use Rattle.lower_rules.specs.Chains.{deeper}
use Rattle.hard_runs.proofs.Meeting.{same_where_met}

-- what is asked of the start of a program
pub record Start (k : Setting) (items : List TopItem) (names : Names) (p : Plan k items names) : Type 0 where
  pub main : Function
  pub main_is : function_named names.main items ≡ Some main
  pub main_first : p.number names.main ≡ 0
  pub no_params : length main.params ≡ 0
  pub room : p.Room (deeper (is_recursive items names.main) 0) (record { function = 0; code = p.code names.main; result = None; callers = [] })
  pub globals_are : k.mid.globals ≡ globals_words (globals items) ++ k.extra 0
  pub shapes_are : map shape_of (globals items) ≡ p.globals
  pub small_globals : AreSmallGlobals (globals items)

module _ (k : Setting) (program : Program) (names : Names) (p : Plan k program.items names) (begin : Start k program.items names p) (input : List ℕ) (small : AreSmall input) where
  abbrev items : List TopItem
  items = program.items

  abbrev fr : Frame
  fr = record { function = 0; code = p.code names.main; result = None; callers = [] }

  abbrev of : Of k items names p names.main begin.main fr
  of = record { is = begin.main_is; function_is = sym begin.main_first; code_is = refl; depth = deeper (is_recursive items names.main) 0; room = begin.room }

  -- some steps from the start, by good states, show what the run of C shows
  pub record Shown (fuel : ℕ) (r : CRan) : Type 0 where
    pub steps : ℕ
    pub last : BlockState
    pub goes : Goes k steps (first_state k.mid input) last
    pub output_is : last.output ≡ r.output
    pub end_is : last.end ≡ end_of r.end
    pub enough : end_of r.end ≡ None → fuel ≤ steps

  begins : (s : State) → s.globals ≡ globals items → s.input ≡ input → s.output ≡ [] → s.active ≡ 0 → machine k fr (start 0) (slice_get []) s ≡ first_state k.mid input
  begins s g i o a =
      ap (λ n. machine k fr (start 0) (slice_get []) (record s { active = n })) a
      ∙ ap (λ gs. machine k fr (start 0) (slice_get []) (record s { globals = gs; active = 0 })) g
      ∙ ap (λ ws. let m : BlockState = record (first_state k.mid s.input) { globals = ws; output = s.output } in m) (sym begin.globals_are)
      ∙ ap (λ l. let m : BlockState = record (first_state k.mid l) { output = s.output } in m) i
      ∙ ap (λ l. let m : BlockState = record (first_state k.mid input) { output = l } in m) o

  abbrev last : Spot
  last = start (last_of k items names p names.main begin.main)

  -- the end of main
  pub record Exits (v : Value) (s : State) (at : Spot) (vars : Variables) : Type 0 where
    pub stop : BlockState
    pub comes : Comes k (machine k fr at vars s) 0 stop
    pub end_is : stop.end ≡ Some (mid.Exited v.word)
    pub output_is : stop.output ≡ s.output

  main_returns : (at : Spot) (vars : Variables) (s : State) (v : Value) → line_at fr.code at.block at.step ≡ Some (End (Return (returned_from (p.has_value names.main) (p.free names.main)))) → index_in vars (returned_from (p.has_value names.main) (p.free names.main)) ≡ v.word → AllByRecursion (λ i. IsSome (vars i)) (one_or_none (returned_from (p.has_value names.main) (p.free names.main))) → Exits v s at vars
  main_returns at vars s v line word written =
      let stop : BlockState = ends (machine k fr at vars s) (mid.Exited v.word) in
      let c1 = comes_by k fr (fits k items names p names.main begin.main fr of) at vars s (End (Return (returned_from (p.has_value names.main) (p.free names.main)))) stop line (record { reads_written = written; index_fits = tt }) (ap (λ w. ends (machine k fr at vars s) (mid.Exited w)) word) in
      record { stop = stop; comes = record { steps = c1.steps; enough = omega arith; goes = c1.goes }; end_is = refl; output_is = refl }

  -- the body of main, and its return
  main_ends : (left a : ℕ) (scopes : _) (b : BlockState) (o : Outcome Value) → Comes k (first_state k.mid input) 0 b → Does k fr (BodyAt k items names p names.main begin.main a scopes last) b left o
      → ((v : Value) (s : State) (at : Spot) (vars : Variables) → BodyAt k items names p names.main begin.main a scopes last v s at vars → Exits v s at vars) → Shown (suc left) (ran o)
  main_ends left a scopes b (Ends e out) first d exits =
      let all = comes_on k (first_state k.mid input) b d.last 0 (owed e left) (owed e left) (omega arith) first d.comes in
      record {
        steps = all.steps;
        last = d.last;
        goes = all.goes;
        output_is = d.output_is;
        end_is = d.end_is;
        enough = λ going. by all.steps e going all.enough;
      }
    where
      by : (n : ℕ) (e' : EvalEnd) → end_of e' ≡ None → owed e' left ≤ n → suc left ≤ n
      by n (c.Exited w) h le = cc
      by n (c.Trapped w) h le = cc
      by n c.Starved h le = cc
      by n c.Going h le = le
  main_ends left a scopes b (Gives v s3) first d exits =
      let x = exits v s3 d.at d.vars d.holds in
      let all = comes_on k (first_state k.mid input) b x.stop 0 0 0 (omega arith) first (comes_on k b (machine k fr d.at d.vars s3) x.stop (left - s3.fuel) 0 0 (omega arith) d.comes x.comes) in
      record {
        steps = all.steps;
        last = x.stop;
        goes = all.goes;
        output_is = x.output_is;
        end_is = x.end_is;
        enough = λ h. let y : Some (mid.Exited v.word) ≡ None = h in cc;
      }

  main_named : (names.main == names.in_word) ≡ false
  main_named = ne_eqb names.main names.in_word (λ e. let x : Some begin.main ≡ None = sym begin.main_is ∙ ap (λ n. function_named n items) e ∙ p.no_in_word in cc)

  main_named' : (names.main == names.out_word) ≡ false
  main_named' = ne_eqb names.main names.out_word (λ e. let x : Some begin.main ≡ None = sym begin.main_is ∙ ap (λ n. function_named n items) e ∙ p.no_out_word in cc)

  entered : (fuel : ℕ) (s : State) → call_at names items (suc fuel) names.main [] s ≡ enter_function (calls names items fuel) (is_recursive items names.main) (Some begin.main) [] s
  entered fuel s =
      ap (λ (x : Bool). (let m : Run Value = if x then call_in_word else (if names.main == names.out_word then call_out_word [] else enter_function (calls names items fuel) (is_recursive items names.main) (function_named names.main items) []) in m) s) main_named
      ∙ ap (λ (x : Bool). (let m : Run Value = if x then call_out_word [] else enter_function (calls names items fuel) (is_recursive items names.main) (function_named names.main items) [] in m) s) main_named'
      ∙ ap (λ f. enter_function (calls names items fuel) (is_recursive items names.main) f [] s) begin.main_is

  same_ran : (o : Outcome Value) (n : ℕ) → ran o ≡ ran (and_then o (λ v s3. Gives v (record s3 { active = n })))
  same_ran (Gives v s3) n = refl
  same_ran (Ends e out) n = refl

  by_recursion : (fuel : ℕ) (r : Bool) → is_recursive items names.main ≡ r → Shown fuel (ran (enter_function (calls names items fuel) r (Some begin.main) [] (c_first_state items input fuel)))
  by_recursion zero false plain = record { steps = 0; last = first_state k.mid input; goes = refl; output_is = refl; end_is = refl; enough = λ h. omega arith }
  by_recursion zero true counts = record { steps = 0; last = first_state k.mid input; goes = refl; output_is = refl; end_is = refl; enough = λ h. omega arith }
  by_recursion (suc left) false plain =
      let s : State = record (c_first_state items input (suc left)) { fuel = left } in
      let m = meets k items names p (suc left) 0 names.main begin.main fr (omega arith) of (ap (λ r. deeper r 0) plain) in
      let none = p.uncounted names.main begin.main begin.main_is plain in
      let first = begins s refl refl refl refl in
      main_ends left 0 [] (machine k fr (start 0) (slice_get []) s) (in_body (calls names items (suc left)) begin.main [] s)
      (record { steps = 0; enough = omega arith; goes = sym first })
      (subst (λ o. Does k fr (BodyAt k items names p names.main begin.main 0 [] last) (machine k fr (past (start 0) (begin_lines o)) (slice_get []) s) left (in_body (calls names items (suc left)) begin.main [] s)) none
      (body_does k items names p names.main begin.main fr of (suc left) 0 m 0 (slice_get []) [] s (slice_get []) tt (sym begin.no_params)
      (record { fuel_below = omega arith; shapes_are = begin.shapes_are; small_globals = begin.small_globals; small_input = small; active_is = refl }) (record { at = λ i lt. refl })))
      (λ v s3 at3 vars3 h.
      let st = subst (λ o. Stands fr.code last (end_lines o ++ End (Return (returned_from (p.has_value names.main) (p.free names.main))) ∷ [])) none (ending_stands k items names p names.main begin.main fr of (suc left) 0 m) in
      main_returns at3 vars3 s3 v (ap (λ z. line_at fr.code z.block z.step) h.at_is ∙ st.0) h.word h.written)
  by_recursion (suc left) true counts =
      let s0 : State = record (c_first_state items input (suc left)) { fuel = left } in
      let s : State = record s0 { active = 1 } in
      let m = meets k items names p (suc left) 1 names.main begin.main fr (omega arith) of (ap (λ r. deeper r 0) counts) in
      let cb = p.counted_by names.main begin.main begin.main_is counts in
      let all = all_stands k items names p names.main begin.main fr of (suc left) 1 m in
      let rise = raises k items names p names.main begin.main fr of cb (slice_get []) s0 refl (omega arith) begin.shapes_are (stands_front fr.code (start 0) (begin_lines (p.counter names.main)) _ all) in
      let b : BlockState = machine k fr (past (start 0) (begin_lines (p.counter names.main))) rise.vars' s in
      let from_first = subst (λ x. Comes k x 0 b) (begins s0 refl refl refl refl) rise.comes in
      subst (Shown (suc left)) (same_ran (in_body (calls names items (suc left)) begin.main [] s) 0)
      (main_ends left 1 [] b (in_body (calls names items (suc left)) begin.main [] s) from_first
      (body_does k items names p names.main begin.main fr of (suc left) 1 m 0 (slice_get []) [] s rise.vars' tt (sym begin.no_params)
      (record { fuel_below = omega arith; shapes_are = begin.shapes_are; small_globals = begin.small_globals; small_input = small; active_is = refl }) (record { at = λ i lt. rise.kept.at i (omega (arith, lt, cb.above)) }))
      (λ v s3 at3 vars3 h.
      let st = ending_stands k items names p names.main begin.main fr of (suc left) 1 m in
      let low = lowers k items names p names.main begin.main fr of cb last vars3 s3 0 h.active_is (omega arith) h.shapes_are (stands_front fr.code last (end_lines (p.counter names.main)) _ st) in
      let at4 : Spot = past last (end_lines (p.counter names.main)) in
      let same : low.vars' (p.free names.main) ≡ vars3 (p.free names.main) = low.kept.at (p.free names.main) cb.above in
      let x = main_returns at4 low.vars' (record s3 { active = 0 }) v (stands_back fr.code last (end_lines (p.counter names.main)) _ st).0 (index_kept k items names p (p.has_value names.main) (p.free names.main) vars3 low.vars' same ∙ h.word) (written_kept k items names p (p.has_value names.main) (p.free names.main) vars3 low.vars' same h.written) in
      record { stop = x.stop; comes = comes_on k (machine k fr at3 vars3 s3) (machine k fr at4 low.vars' (record s3 { active = 0 })) x.stop 0 0 0 (omega arith) (subst (λ z. Comes k (machine k fr z vars3 s3) 0 (machine k fr at4 low.vars' (record s3 { active = 0 }))) (sym h.at_is) low.comes) x.comes; end_is = x.end_is; output_is = x.output_is }))

  pub shown : (fuel : ℕ) → Shown fuel (run_of names program input fuel)
  shown fuel = subst (λ o. Shown fuel (ran o)) (sym (entered fuel (c_first_state items input fuel))) (by_recursion fuel (is_recursive items names.main) refl)

  -- the run of the blocks is the run of the tree, observed from outside
  pub same_run : SameObserved (block_run k.mid input) (c_observed names program input)
  same_run = same_where_met RunEnd (block_run k.mid input) (c_observed names program input) (block_machine k.mid input) (λ n.
      let x = shown n in
      let is : after k.mid x.steps (first_state k.mid input) ≡ x.last = goes_after k x.steps (first_state k.mid input) x.last x.goes in
      record {
        steps = x.steps;
        output_is = ap (λ b. b.output) is ∙ x.output_is;
        end_is = ap (λ b. b.end) is ∙ x.end_is;
        enough = x.enough;
      })
