-- After each part of a run as many calls of recursive functions are active as before it.
use Rattle.std.proofs.Common.{ℕ, zero, suc, Bool, true, false, List, [], ◌∷◌, Result, Ok, Err, refl, sym, subst, ◌==◌}
use Rattle.c_meaning.specs.declared.run.EvalEnd.{EvalEnd}
use Rattle.c_syntax.specs.declared.tree.TopItem.{TopItem}
use Rattle.c_meaning.specs.Run.{Entry, Global, State, Outcome, Gives, Ends, Run, and_then, most_active, begin_if, spend_from, next_of}
use Rattle.c_syntax.specs.Graph.{function_named}
use Rattle.c_meaning.specs.Meaning.{Names, call_at, returns_unsigned}
use Rattle.c_meaning.specs.Laws.{AsActive, CallsReturn}
use Rattle.c_meaning.proofs.Related.{StepsKept, IsKept, changed, Same, on_turns, on_call, kept_expression, kept_statement}

pub record Stays (A : Type 0) (m m' : Run A) : Type 0 where
  pub at : (s : State) → AsActive s.active (m s)

stays_on : {A B : Type 0} (n : ℕ) (o : Outcome A) (go go' : A → Run B) → AsActive n o → ((a : A) → Stays B (go a) (go' a)) → AsActive n (and_then o go)
stays_on n (Gives a s) go go' h g = subst (λ k. AsActive k (go a s)) h ((g a).at s)
stays_on n (Ends end output) go go' h g = tt

stays_changed : {A : Type 0} (s : State) (r : Result (A × List Global × List (List Entry)) EvalEnd) → AsActive s.active (changed s r)
stays_changed s (Ok (a, g, c)) = refl
stays_changed s (Err end) = tt

stays_next : (words : List ℕ) (s : State) → AsActive s.active (next_of words s)
stays_next [] s = tt
stays_next (word ∷ words) s = refl

stays_spend : (left : ℕ) (s : State) → AsActive s.active (spend_from left s)
stays_spend zero s = tt
stays_spend (suc left) s = refl

-- whatever stands between, the end of a call puts the number back
ended : {A : Type 0} (before : ℕ) (o : Outcome A) → AsActive before (and_then o (λ a s. Gives a (record s { active = before })))
ended before (Gives a s) = refl
ended before (Ends end output) = tt

stays_begun : {A : Type 0} (full : Bool) (s : State) (m : Run A) → AsActive s.active (and_then (begin_if full s) (λ before s'. and_then (m s') (λ a s''. Gives a (record s'' { active = before }))))
stays_begun true s m = tt
stays_begun false s m = ended s.active (m (record s { active = suc s.active }))

stays_steps : StepsKept Stays
stays_steps = record {
  on_pure = λ a. record { at = λ s. refl };
  on_stop = λ end. record { at = λ s. tt };
  on_then = λ {A} {B} {m} {m'} {go} {go'} p q. record { at = λ s. stays_on s.active (m s) go go' (p.at s) q };
  on_variables = λ m v. record { at = λ s. subst (AsActive s.active) (sym (v.is s)) (stays_changed s (v.change s.globals s.scopes)) };
  on_put_out = λ word. record { at = λ s. refl };
  on_take_in = record { at = λ s. stays_next s.input s };
  on_spend = record { at = λ s. stays_spend s.fuel s };
  on_counted = λ {A} {m} {m'} p. record { at = λ s. stays_begun (s.active == most_active) s m };
}

stays_kept : IsKept Stays
stays_kept = record {
  steps = stays_steps;
  on_loop = λ test test' next next' body body' t a b. record { at = λ s. (on_turns Stays stays_steps (suc s.fuel) test test' next next' body body' t a b).at s };
}

stays : (names : Names) (items : List TopItem) (n : ℕ) → Same Stays stays_kept (call_at names items n) (call_at names items n)
stays names items zero name args = record { at = λ s. tt }
stays names items (suc n) name args = on_call Stays stays_kept names items n n (stays names items n) name args

pub calls_return : CallsReturn
calls_return names items level s =
    let types : ℕ → Bool = λ f. returns_unsigned (function_named f items) in
    let call = call_at names items level in
    record {
      of_expression = λ e. ((kept_expression Stays stays_kept e).of_value types call call (stays names items level)).at s;
      of_place = λ e. ((kept_expression Stays stays_kept e).of_place types call call (stays names items level)).at s;
      of_statement = λ c. ((kept_statement Stays stays_kept c).at types call call (stays names items level)).at s;
      of_call = λ name args. (stays names items level name args).at s;
    }
