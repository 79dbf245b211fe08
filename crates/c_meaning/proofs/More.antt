-- What a run does with more fuel: it gives the same and has as much more left, or it was going and adds to its output.
use Rattle.std.proofs.Common.{◌≡◌, ℕ, zero, suc, ◌+◌, ◌-◌, ◌≤◌, Bool, true, false, List, [], ◌∷◌, Result, Ok, Err, refl, sym, ap, ◌∙◌, subst, arith, if◌then◌else◌, ◌==◌}
use Rattle.c_meaning.specs.declared.run.Value.{Value}
use Rattle.c_meaning.specs.declared.run.Flow.{Flow}
use Rattle.c_meaning.specs.declared.run.Flow.TheVariants.{Normal, Breaks, Continues as Skips, Returns}
use Rattle.c_meaning.specs.declared.run.EvalEnd.{EvalEnd}
use Rattle.c_meaning.specs.declared.run.EvalEnd.TheVariants.{Going}
use Rattle.c_syntax.specs.declared.tree.TopItem.{TopItem}
use Rattle.c_meaning.specs.Operators.{is_zero}
use Rattle.c_meaning.specs.Run.{Entry, Global, State, Outcome, Gives, Ends, Run, and_then, ◌>>=◌, ◌>>◌, pure, stop, most_active, begin_if, begin_active, end_active, spend, spend_from, put_out, take_in, next_of}
use Rattle.c_meaning.specs.Meaning.{Names, ran, run_of, first_state, call_at, turns, loop, after_body}
use Rattle.hard_runs.specs.Observed.{Prefix}
use Rattle.hard_runs.proofs.Observed.{prefix_reflexive, prefix_transitive}
use Rattle.c_meaning.specs.Laws.{Continues, ended, went_on, MoreFuel}
use Rattle.c_meaning.proofs.Related.{IsKept, OnVariables, changed, counted_from, Same, on_call}

-- ---- outcomes

-- the output as it is at the end of a part
abbrev pub output_of : {A : Type 0} → Outcome A → List ℕ
output_of (Gives a s) = s.output
output_of (Ends end output) = output

-- a state with so much more fuel
abbrev pub fed : ℕ → State → State
fed d s = record s { fuel = s.fuel + d }

-- a result with so much more fuel left
abbrev pub more : {A : Type 0} → ℕ → Outcome A → Outcome A
more d (Gives a s) = Gives a (fed d s)
more d (Ends end output) = Ends end output

pub data Goes {A : Type 0} (d : ℕ) (o x : Outcome A) : Type 0 where
  alike : x ≡ more d o → Goes d o x
  further : (output : List ℕ) → o ≡ Ends Going output → Prefix output (output_of x) → Goes d o x

-- a part only adds to the output
pub record Grows (A : Type 0) (m : Run A) : Type 0 where
  pub by : (s : State) → Prefix s.output (output_of (m s))

pub record More (A : Type 0) (m m' : Run A) : Type 0 where
  pub at : (d : ℕ) (s : State) → Goes d (m s) (m' (fed d s))
  pub grows : Grows A m'

-- ---- one part after another

grows_on : {A B : Type 0} (a : List ℕ) (o : Outcome A) (go : A → Run B) → Prefix a (output_of o) → ((x : A) → Grows B (go x)) → Prefix a (output_of (and_then o go))
grows_on a (Gives x s) go p g = prefix_transitive a s.output (output_of (go x s)) p ((g x).by s)
grows_on a (Ends end output) go p g = p

grows_then : {A B : Type 0} (m : Run A) (go : A → Run B) → Grows A m → ((x : A) → Grows B (go x)) → Grows B (m >>= go)
grows_then m go p g = record { by = λ s. grows_on s.output (m s) go (p.by s) g }

goes_alike : {A B : Type 0} (d : ℕ) (o : Outcome A) (go go' : A → Run B) → ((x : A) → More B (go x) (go' x)) → Goes d (and_then o go) (and_then (more d o) go')
goes_alike d (Gives x s) go go' g = (g x).at d s
goes_alike d (Ends end output) go go' g = alike refl

goes_then : {A B : Type 0} (d : ℕ) (o x : Outcome A) (go go' : A → Run B) → Goes d o x → ((a : A) → More B (go a) (go' a)) → Goes d (and_then o go) (and_then x go')
goes_then d o x go go' (alike e) g = subst (λ y. Goes d (and_then o go) (and_then y go')) (sym e) (goes_alike d o go go' g)
goes_then d o x go go' (further output e p) g = further output (ap (λ y. and_then y go) e) (grows_on output x go' p (λ a. (g a).grows))

more_then : {A B : Type 0} {m m' : Run A} {go go' : A → Run B} → More A m m' → ((a : A) → More B (go a) (go' a)) → More B (m >>= go) (m' >>= go')
more_then {m = m} {m' = m'} {go = go} {go' = go'} p g = record {
  at = λ d s. goes_then d (m s) (m' (fed d s)) go go' (p.at d s) g;
  grows = grows_then m' go' p.grows (λ a. (g a).grows);
}

-- ---- each step

more_pure : {A : Type 0} (a : A) → More A (pure a) (pure a)
more_pure a = record { at = λ d s. alike refl; grows = record { by = λ s. prefix_reflexive s.output } }

more_stop : {A : Type 0} (end : EvalEnd) → More A (stop end) (stop end)
more_stop end = record { at = λ d s. alike refl; grows = record { by = λ s. prefix_reflexive s.output } }

grows_changed : {A : Type 0} (s : State) (r : Result (A × List Global × List (List Entry)) EvalEnd) → Prefix s.output (output_of (changed s r))
grows_changed s (Ok (a, g, c)) = prefix_reflexive s.output
grows_changed s (Err end) = prefix_reflexive s.output

more_changed : {A : Type 0} (d : ℕ) (s : State) (r : Result (A × List Global × List (List Entry)) EvalEnd) → changed (fed d s) r ≡ more d (changed s r)
more_changed d s (Ok (a, g, c)) = refl
more_changed d s (Err end) = refl

more_variables : {A : Type 0} (m : Run A) → OnVariables m → More A m m
more_variables m v = record {
  at = λ d s. alike (v.is (fed d s) ∙ more_changed d s (v.change s.globals s.scopes) ∙ ap (more d) (sym (v.is s)));
  grows = record { by = λ s. subst (λ o. Prefix s.output (output_of o)) (sym (v.is s)) (grows_changed s (v.change s.globals s.scopes)) };
}

more_put_out : (word : ℕ) → More (Unit {0}) (put_out word) (put_out word)
more_put_out word = record { at = λ d s. alike refl; grows = record { by = λ s. (word ∷ [], refl) } }

grows_next : (words : List ℕ) (s : State) → Prefix s.output (output_of (next_of words s))
grows_next [] s = prefix_reflexive s.output
grows_next (word ∷ words) s = prefix_reflexive s.output

more_next : (d : ℕ) (words : List ℕ) (s : State) → next_of words (fed d s) ≡ more d (next_of words s)
more_next d [] s = refl
more_next d (word ∷ words) s = refl

more_take_in : More ℕ take_in take_in
more_take_in = record { at = λ d s. alike (more_next d s.input s); grows = record { by = λ s. grows_next s.input s } }

grows_spend : (left : ℕ) (s : State) → Prefix s.output (output_of (spend_from left s))
grows_spend zero s = prefix_reflexive s.output
grows_spend (suc left) s = prefix_reflexive s.output

goes_spend : (d left : ℕ) (s : State) → Goes d (spend_from left s) (spend_from (left + d) (fed d s))
goes_spend d zero s = further s.output refl (grows_spend (0 + d) (fed d s))
goes_spend d (suc left) s = let e : suc left + d ≡ suc (left + d) = omega arith in alike (ap (λ n. spend_from n (fed d s)) e)

more_spend : More (Unit {0}) spend spend
more_spend = record { at = λ d s. goes_spend d s.fuel s; grows = record { by = λ s. grows_spend s.fuel s } }

begins : (d : ℕ) (full : Bool) (s : State) → begin_if full (fed d s) ≡ more d (begin_if full s)
begins d true s = refl
begins d false s = refl

grows_begin : (full : Bool) (s : State) → Prefix s.output (output_of (begin_if full s))
grows_begin true s = prefix_reflexive s.output
grows_begin false s = prefix_reflexive s.output

more_begin : More ℕ begin_active begin_active
more_begin = record { at = λ d s. alike (begins d (s.active == most_active) s); grows = record { by = λ s. grows_begin (s.active == most_active) s } }

more_end : (before : ℕ) → More (Unit {0}) (end_active before) (end_active before)
more_end before = record { at = λ d s. alike refl; grows = record { by = λ s. prefix_reflexive s.output } }

-- what spends its last goes on as anything that adds to the output
more_going : {A : Type 0} (m : Run A) → Grows A m → More A (stop Going) m
more_going m g = record { at = λ d s. further s.output refl (g.by (fed d s)); grows = g }

-- ---- loops

grows_after_body : (flow : Flow) (again : Run Flow) → Grows Flow again → Grows Flow (after_body flow again)
grows_after_body Normal again g = g
grows_after_body Skips again g = g
grows_after_body Breaks again g = (more_pure Normal).grows
grows_after_body (Returns v) again g = (more_pure (Returns v)).grows

grows_if : {A : Type 0} (b : Bool) (m n : Run A) → Grows A m → Grows A n → Grows A (if b then m else n)
grows_if true m n p q = p
grows_if false m n p q = q

grows_turns : (n : ℕ) (test : Run Value) (next : Run (Unit {0})) (body : Run Flow) → Grows Value test → Grows (Unit {0}) next → Grows Flow body → Grows Flow (turns n test next body)
grows_turns zero test next body t a b = (more_stop {A = Flow} Going).grows
grows_turns (suc n) test next body t a b =
    grows_then test _ t (λ v. grows_if (is_zero v) (pure Normal) (spend >> (λ s. and_then (body s) (λ flow. after_body flow (next >> turns n test next body)))) (more_pure Normal).grows
    (grows_then spend _ more_spend.grows (λ u. grows_then body _ b (λ flow. grows_after_body flow _ (grows_then next _ a (λ w. grows_turns n test next body t a b))))))

after_more : (flow : Flow) {m m' : Run Flow} → More Flow m m' → More Flow (after_body flow m) (after_body flow m')
after_more Normal p = p
after_more Skips p = p
after_more Breaks p = more_pure Normal
after_more (Returns v) p = more_pure (Returns v)

if_more : {A : Type 0} (b : Bool) {m m' n n' : Run A} → More A m m' → More A n n' → More A (if b then m else n) (if b then m' else n')
if_more true p q = p
if_more false p q = q

module _ (test test' : Run Value) (next next' : Run (Unit {0})) (body body' : Run Flow) (t : More Value test test') (a : More (Unit {0}) next next') (b : More Flow body body') where
  more_turns : (n n' : ℕ) → n ≤ n' → More Flow (turns n test next body) (turns n' test' next' body')
  more_turns zero n' le = more_going (turns n' test' next' body') (grows_turns n' test' next' body' t.grows a.grows b.grows)
  more_turns (suc n) zero le = absurd (omega arith)
  more_turns (suc n) (suc n') le =
      more_then t (λ v. if_more (is_zero v) (more_pure Normal)
      (more_then more_spend (λ u. more_then b (λ flow. after_more flow (more_then a (λ w. more_turns n n' (omega arith)))))))

  more_loop : More Flow (loop test next body) (loop test' next' body')
  more_loop = record {
    at = λ d s. (more_turns (suc s.fuel) (suc (s.fuel + d)) (omega arith)).at d s;
    grows = record { by = λ s. (grows_turns (suc s.fuel) test' next' body' t.grows a.grows b.grows).by s };
  }

pub more_kept : IsKept More
more_kept = record {
  steps = record { on_pure = more_pure; on_stop = more_stop; on_then = more_then; on_variables = more_variables; on_put_out = more_put_out; on_take_in = more_take_in; on_spend = more_spend; on_counted = λ {A} {m} {m'} p. counted_from More (λ A B m m' go go' q r. more_then q r) (λ A a. more_pure a) more_begin more_end A m m' p };
  on_loop = more_loop;
}

-- ---- calls

same_level : (names : Names) (items : List TopItem) (n : ℕ) → Same More more_kept (call_at names items n) (call_at names items n)
same_level names items zero name args = more_stop Going
same_level names items (suc n) name args = on_call More more_kept names items n n (same_level names items n) name args

more_levels : (names : Names) (items : List TopItem) (n n' : ℕ) → n ≤ n' → Same More more_kept (call_at names items n) (call_at names items n')
more_levels names items zero n' le name args = more_going (call_at names items n' name args) (same_level names items n' name args).grows
more_levels names items (suc n) zero le name args = absurd (omega arith)
more_levels names items (suc n) (suc n') le name args = on_call More more_kept names items n n' (more_levels names items n n' (omega arith)) name args

-- ---- whole runs

ran_more : (d : ℕ) (o x : Outcome Value) → Goes d o x → Continues (ran o) (ran x)
ran_more d o x (alike e) = ended (ap ran e ∙ same o)
  where
    same : (o' : Outcome Value) → ran (more d o') ≡ ran o'
    same (Gives v s) = refl
    same (Ends end output) = refl
ran_more d o x (further output e p) = went_on (ap (λ y. (ran y).end) e) (subst (λ y. Prefix (ran y).output (ran x).output) (sym e) (subst (λ r. Prefix output r) (out x) p))
  where
    out : (x' : Outcome Value) → output_of x' ≡ (ran x').output
    out (Gives v s) = refl
    out (Ends end output') = refl

pub more_fuel : MoreFuel
more_fuel names program input less more' le =
    let d : ℕ = more' - less in
    let e : less + d ≡ more' = omega arith in
    let level = more_levels names program.items (suc less) (suc (less + d)) (omega arith) names.main [] in
    subst (λ f. Continues (run_of names program input less) (run_of names program input f)) e
    (ran_more d (call_at names program.items (suc less) names.main [] (first_state program.items input less)) (call_at names program.items (suc (less + d)) names.main [] (first_state program.items input (less + d))) (level.at d (first_state program.items input less)))
