-- What is counted of a run, step after step.
use Rattle.std.proofs.Common.{◌≡◌, ℕ, zero, suc, ◌+◌, ◌≤◌, ◌%◌, ◌^◌, arith, ap, refl, sym, ◌∙◌, List, [], ◌∷◌, ◌++◌, length, add-one, zero-add}
use Rattle.std.specs.Prelude.{Option, Some, None, sum}
use Rattle.std.proofs.lemmas.List.{length-append}
use Rattle.std.proofs.lemmas.List.Sums.{sum_by-append}
use Rattle.mips_isa.specs.Machine.{State}
use Rattle.mips_isa.specs.Runs.{Ran, run, turn, after_turn, put_out}
use Rattle.fault_replay.specs.declared.count.Counted.{Counted}
use Rattle.fault_replay.specs.Counts.{counted, with_word}

total_more : (a w : ℕ) → (a % 2 ^ 32 + w) % 2 ^ 32 ≡ (a + w) % 2 ^ 32
total_more a w = omega arith

one_word : (w : ℕ) → sum (w ∷ []) ≡ w
one_word w = zero-add w

sum_more : (out : List ℕ) (w : ℕ) → sum (out ++ w ∷ []) ≡ sum out + w
sum_more out w = sum_by-append (λ x. x) out (w ∷ []) ∙ (let e : sum out + sum (w ∷ []) ≡ sum out + w = ap (λ k. sum out + k) (one_word w) in e)

-- one more word
more_counted : (out : List ℕ) (w : Option ℕ) → counted (put_out out w) ≡ with_word (counted out) w
more_counted out None = refl
more_counted out (Some w) =
    let l : length (out ++ w ∷ []) ≡ length out + 1 = length-append out (w ∷ []) in
    let s : sum (out ++ w ∷ []) % 2 ^ 32 ≡ (sum out % 2 ^ 32 + w) % 2 ^ 32 = ap (λ n. n % 2 ^ 32) (sum_more out w) ∙ sym (total_more (sum out) w) in
    rw (l, s) refl

-- one more step
pub step_counted : (s : State) (n : ℕ) (m next : State) (w : Option ℕ) (sofar : Counted) → m ≡ (run s None n).state → turn None n m ≡ (next, w) → sofar ≡ counted (run s None n).output
    → with_word sofar w ≡ counted (run s None (n + 1)).output
step_counted s n m next w sofar e t same =
    let more : run s None (n + 1) ≡ after_turn (run s None n) (next, w) =
    ap (λ (k : ℕ). run s None k) (add-one n) ∙ ap (λ (p : State × Option ℕ). after_turn (run s None n) p) (ap (λ (q : State). turn None n q) (sym e) ∙ t) in
    ap (λ (c : Counted). with_word c w) same ∙ (sym (more_counted (run s None n).output w) ∙ ap (λ (r : Ran). counted r.output) (sym more))

few_more : (out : List ℕ) (w : Option ℕ) (n : ℕ) → length out ≤ n → length (put_out out w) ≤ suc n
few_more out None n h = omega (arith, h)
few_more out (Some w) n h = let l : length (out ++ w ∷ []) ≡ length out + 1 = length-append out (w ∷ []) in omega (arith, h, l)

-- a run of so many steps puts out no more words
pub few : (s : State) (n : ℕ) → length (run s None n).output ≤ n
few s zero = omega arith
few s (suc n) = few_more (run s None n).output (turn None n (run s None n).state).1 n (few s n)
