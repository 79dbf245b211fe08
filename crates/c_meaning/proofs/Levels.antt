-- Levels above the fuel do the same.
use Rattle.std.proofs.Common.{◌≡◌, ℕ, zero, suc, ◌<◌, ◌≤◌, Bool, true, false, List, [], ◌∷◌, Option, Some, None, Result, Ok, Err, refl, sym, ap, subst, arith, ◌==◌}
use Rattle.c_meaning.specs.declared.run.Value.{Value}
use Rattle.c_meaning.specs.declared.run.EvalEnd.{EvalEnd}
use Rattle.c_syntax.specs.declared.tree.Function.{Function}
use Rattle.c_syntax.specs.declared.tree.TopItem.{TopItem}
use Rattle.c_meaning.specs.Operators.{value}
use Rattle.c_meaning.specs.Run.{Entry, Global, State, Outcome, Gives, Ends, Run, and_then, most_active, begin_if, spend_from, next_of}
use Rattle.c_meaning.specs.Meaning.{Names, call_at, calls, returns_unsigned, in_body, enter_function, first_word}
use Rattle.c_syntax.specs.Graph.{function_named, is_recursive}
use Rattle.c_meaning.specs.Laws.{LevelsAgree}
use Rattle.c_meaning.proofs.Related.{StepsKept, IsKept, changed, counted_from, Same, on_if, on_counted_if, on_turns, on_in_body, kept_expression, kept_statement}

-- the fuel after a result is at most n
abbrev pub Left : {A : Type 0} → ℕ → Outcome A → Type 0
Left n (Gives a s) = s.fuel ≤ n
Left n (Ends end output) = Unit {0}

left_more : {A : Type 0} (m n : ℕ) (o : Outcome A) → m ≤ n → Left m o → Left n o
left_more m n (Gives a s) le l = omega arith
left_more m n (Ends end output) le l = tt

-- the same from each state with fuel at most k, and the fuel never rises
pub record Alike (k : ℕ) (A : Type 0) (m m' : Run A) : Type 0 where
  pub at : (s : State) → s.fuel ≤ k → (m s ≡ m' s) × Left s.fuel (m s)

alike_then : {A B : Type 0} (k n : ℕ) (o o' : Outcome A) (go go' : A → Run B) → n ≤ k → (o ≡ o') × Left n o → ((a : A) → Alike k B (go a) (go' a)) → (and_then o go ≡ and_then o' go') × Left n (and_then o go)
alike_then k n (Gives a s) o' go go' le h g =
    let r = (g a).at s (omega (arith, h.1)) in
    (subst (λ x. go a s ≡ and_then x go') h.0 r.0, left_more s.fuel n (go a s) h.1 r.1)
alike_then k n (Ends end output) o' go go' le h g = (ap (λ x. and_then x go') h.0, tt)

left_changed : {A : Type 0} (s : State) (r : Result (A × List Global × List (List Entry)) EvalEnd) → Left s.fuel (changed s r)
left_changed s (Ok (a, g, c)) = omega arith
left_changed s (Err end) = tt

left_next : (words : List ℕ) (s : State) → Left s.fuel (next_of words s)
left_next [] s = tt
left_next (word ∷ words) s = omega arith

left_spend : (left : ℕ) (s : State) → left ≡ s.fuel → Left s.fuel (spend_from left s)
left_spend zero s e = tt
left_spend (suc left) s e = omega arith

left_begin : (full : Bool) (s : State) → Left s.fuel (begin_if full s)
left_begin true s = tt
left_begin false s = omega arith

alike_steps : (k : ℕ) → StepsKept (Alike k)
alike_steps k = record {
  on_pure = λ a. record { at = λ s le. (refl, omega arith) };
  on_stop = λ end. record { at = λ s le. (refl, tt) };
  on_then = λ {A} {B} {m} {m'} {go} {go'} p q. record { at = λ s le. alike_then k s.fuel (m s) (m' s) go go' le (p.at s le) q };
  on_variables = λ m v. record { at = λ s le. (refl, subst (Left s.fuel) (sym (v.is s)) (left_changed s (v.change s.globals s.scopes))) };
  on_put_out = λ word. record { at = λ s le. (refl, omega arith) };
  on_take_in = record { at = λ s le. (refl, left_next s.input s) };
  on_spend = record { at = λ s le. (refl, left_spend s.fuel s refl) };
  on_counted = λ {A} {m} {m'} r. counted_from (Alike k) (λ A B m m' go go' p q. record { at = λ s le. alike_then k s.fuel (m s) (m' s) go go' le (p.at s le) q }) (λ A a. record { at = λ s le. (refl, omega arith) }) (record { at = λ s le. (refl, left_begin (s.active == most_active) s) }) (λ before. record { at = λ s le. (refl, omega arith) }) A m m' r;
}

pub alike_kept : (k : ℕ) → IsKept (Alike k)
alike_kept k = record {
  steps = alike_steps k;
  on_loop = λ test test' next next' body body' t a b. record { at = λ s le. (on_turns (Alike k) (alike_steps k) (suc s.fuel) test test' next next' body body' t a b).at s le };
}

-- after a spent unit, one level less is enough
spent_at : (k left : ℕ) (s : State) (rest rest' : Run Value) → left ≡ s.fuel → left ≤ k → ((j : ℕ) → k ≡ suc j → Alike j Value rest rest') → (and_then (spend_from left s) (λ u. rest) ≡ and_then (spend_from left s) (λ u. rest')) × Left s.fuel (and_then (spend_from left s) (λ u. rest))
spent_at k zero s rest rest' e le r = (refl, tt)
spent_at zero (suc left) s rest rest' e le r = absurd (omega arith)
spent_at (suc j) (suc left) s rest rest' e le r =
    let x = (r j refl).at (record s { fuel = left }) (omega arith) in
    (x.0, left_more left s.fuel (rest (record s { fuel = left })) (omega arith) x.1)

module _ (names : Names) (items : List TopItem) where
  levels : (k n n' : ℕ) → k < n → k < n' → Same (Alike k) (alike_kept k) (call_at names items n) (call_at names items n')
  levels k zero n' lt lt' name args = absurd (omega arith)
  levels k (suc n) zero lt lt' name args = absurd (omega arith)
  levels k (suc n) (suc n') lt lt' name args =
      let steps = alike_steps k in
      on_if (Alike k) (alike_kept k) (name == names.in_word) (steps.on_then steps.on_take_in (λ word. steps.on_pure (value word false)))
      (on_if (Alike k) (alike_kept k) (name == names.out_word) (steps.on_then (steps.on_put_out (first_word args)) (λ u. steps.on_pure (value 0 false)))
      (entered (λ j e. levels j n n' (omega arith) (omega arith)) (function_named name items)))
    where
      entered : ((j : ℕ) → k ≡ suc j → Same (Alike j) (alike_kept j) (call_at names items n) (call_at names items n')) → (f : Option Function) → Alike k Value (enter_function (calls names items n) (is_recursive items name) f args) (enter_function (calls names items n') (is_recursive items name) f args)
      entered ih None = record { at = λ s le. (refl, tt) }
      entered ih (Some f) = on_counted_if (Alike k) (alike_kept k) (is_recursive items name) record { at = λ s le. spent_at k s.fuel s (in_body (calls names items n) f args) (in_body (calls names items n') f args) refl le (λ j e. on_in_body (Alike j) (alike_kept j) (λ g. returns_unsigned (function_named g items)) (call_at names items n) (call_at names items n') (ih j e) f args) }

pub levels_agree : LevelsAgree
levels_agree names items m n s lt lt' =
    let types : ℕ → Bool = λ f. returns_unsigned (function_named f items) in
    let kept = alike_kept s.fuel in
    let same = levels names items s.fuel m n lt lt' in
    record {
      of_expression = λ e. (((kept_expression (Alike s.fuel) kept e).of_value types (call_at names items m) (call_at names items n) same).at s (omega arith)).0;
      of_place = λ e. (((kept_expression (Alike s.fuel) kept e).of_place types (call_at names items m) (call_at names items n) same).at s (omega arith)).0;
      of_statement = λ c. (((kept_statement (Alike s.fuel) kept c).at types (call_at names items m) (call_at names items n) same).at s (omega arith)).0;
      of_call = λ name args. ((same name args).at s (omega arith)).0;
    }
