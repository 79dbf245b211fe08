-- What was put out before changes nothing.
use Rattle.std.proofs.Common.{◌≡◌, ℕ, zero, suc, Bool, List, [], ◌∷◌, Result, Ok, Err, refl, sym, ap, ◌∙◌, append_assoc, ◌==◌, true, false}
use Rattle.c_meaning.specs.declared.run.EvalEnd.{EvalEnd}
use Rattle.c_syntax.specs.declared.tree.TopItem.{TopItem}
use Rattle.c_meaning.specs.Run.{Entry, Global, State, Outcome, Gives, Ends, Run, and_then, most_active, begin_if, spend_from, next_of}
use Rattle.c_meaning.specs.Meaning.{Names, call_at, returns_unsigned}
use Rattle.c_syntax.specs.Graph.{function_named}
use Rattle.c_meaning.specs.Laws.{after_words, with_words, OutputIsAdded}
use Rattle.c_meaning.proofs.Related.{StepsKept, IsKept, OnVariables, changed, counted_from, Same, on_turns, on_call, kept_expression, kept_statement}

pub record Adds (A : Type 0) (m m' : Run A) : Type 0 where
  pub at : (words : List ℕ) (s : State) → m' (after_words words s) ≡ with_words words (m s)

adds_then : {A B : Type 0} (words : List ℕ) (o x : Outcome A) (go go' : A → Run B) → x ≡ with_words words o → ((a : A) → Adds B (go a) (go' a)) → and_then x go' ≡ with_words words (and_then o go)
adds_then words (Gives a s) x go go' e g = ap (λ y. and_then y go') e ∙ (g a).at words s
adds_then words (Ends end output) x go go' e g = ap (λ y. and_then y go') e

adds_changed : {A : Type 0} (words : List ℕ) (s : State) (r : Result (A × List Global × List (List Entry)) EvalEnd) → changed (after_words words s) r ≡ with_words words (changed s r)
adds_changed words s (Ok (a, g, c)) = refl
adds_changed words s (Err end) = refl

adds_variables : {A : Type 0} (m : Run A) (v : OnVariables m) (words : List ℕ) (s : State) → m (after_words words s) ≡ with_words words (m s)
adds_variables m v words s = v.is (after_words words s) ∙ adds_changed words s (v.change s.globals s.scopes) ∙ ap (with_words words) (sym (v.is s))

adds_next : (words rest : List ℕ) (s : State) → next_of rest (after_words words s) ≡ with_words words (next_of rest s)
adds_next words [] s = refl
adds_next words (word ∷ rest) s = refl

adds_spend : (words : List ℕ) (left : ℕ) (s : State) → spend_from left (after_words words s) ≡ with_words words (spend_from left s)
adds_spend words zero s = refl
adds_spend words (suc left) s = refl

adds_begin : (words : List ℕ) (full : Bool) (s : State) → begin_if full (after_words words s) ≡ with_words words (begin_if full s)
adds_begin words true s = refl
adds_begin words false s = refl

adds_steps : StepsKept Adds
adds_steps = record {
  on_pure = λ a. record { at = λ words s. refl };
  on_stop = λ end. record { at = λ words s. refl };
  on_then = λ {A} {B} {m} {m'} {go} {go'} p q. record { at = λ words s. adds_then words (m s) (m' (after_words words s)) go go' (p.at words s) q };
  on_variables = λ m v. record { at = λ words s. adds_variables m v words s };
  on_put_out = λ word. record { at = λ words s. ap (λ out. Gives tt (record s { output = out })) (append_assoc words s.output (word ∷ [])) };
  on_take_in = record { at = λ words s. adds_next words s.input s };
  on_spend = record { at = λ words s. adds_spend words s.fuel s };
  on_counted = λ {A} {m} {m'} r. counted_from Adds (λ A B m m' go go' p q. record { at = λ words s. adds_then words (m s) (m' (after_words words s)) go go' (p.at words s) q }) (λ A a. record { at = λ words s. refl }) (record { at = λ words s. adds_begin words (s.active == most_active) s }) (λ before. record { at = λ words s. refl }) A m m' r;
}

pub adds_kept : IsKept Adds
adds_kept = record {
  steps = adds_steps;
  on_loop = λ test test' next next' body body' t a b. record { at = λ words s. (on_turns Adds adds_steps (suc s.fuel) test test' next next' body body' t a b).at words s };
}

adds : (names : Names) (items : List TopItem) (n : ℕ) → Same Adds adds_kept (call_at names items n) (call_at names items n)
adds names items zero name args = record { at = λ words s. refl }
adds names items (suc n) name args = on_call Adds adds_kept names items n n (adds names items n) name args

pub output_is_added : OutputIsAdded
output_is_added names items level words s =
    let types : ℕ → Bool = λ f. returns_unsigned (function_named f items) in
    let call = call_at names items level in
    record {
      of_expression = λ e. ((kept_expression Adds adds_kept e).of_value types call call (adds names items level)).at words s;
      of_place = λ e. ((kept_expression Adds adds_kept e).of_place types call call (adds names items level)).at words s;
      of_statement = λ c. ((kept_statement Adds adds_kept c).at types call call (adds names items level)).at words s;
      of_call = λ name args. (adds names items level name args).at words s;
    }
