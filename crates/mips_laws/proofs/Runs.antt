-- Laws of runs, with a change or without one.
use Rattle.std.proofs.Common.{◌≡◌, ◌≢◌, ℕ, zero, suc, ◌+◌, arith, ap, refl, sym, ◌∙◌, subst, List, [], ◌∷◌, ◌++◌, append_assoc, append-nil, add-zero, add-suc, false, true, cond, Bool, inl, inr}
use Rattle.std.specs.Prelude.{Option, Some, None, ◌==◌, ◌⊎◌, bit_xor, ◌^◌}
use Rattle.hard_runs.specs.Observed.{Prefix}
use Rattle.hard_runs.proofs.Observed.{prefix_reflexive, prefix_transitive}
use Rattle.hard_words.specs.declared.Change.{Change}
use Rattle.hard_words.specs.declared.ChangeKind.{ChangeKind}
use Rattle.hard_words.specs.declared.ChangeKind.TheVariants.{Flip, Divert, Set}
use Rattle.hard_words.specs.declared.SetPlace.{SetPlace}
use Rattle.hard_words.specs.declared.SetPlace.TheVariants.{Reg}
use Rattle.mips_isa.specs.declared.instr.End.{End}
use Rattle.mips_isa.specs.Machine.{State, step, reg}
use Rattle.mips_isa.specs.Runs.{Ran, run, turn, put_out, after_turn, replaced, diverted}
use Rattle.mips_laws.specs.RunLaws.{prefixed, joined, OutputGrows, EndStays, RunBegins, RunJoins, SameBefore, CleanBehind, ComesBefore, ReplaceSplits, FlipIsSet, DivertSplits}

-- Words put out behind others.

put_out-append : (ws out : List ℕ) (o : Option ℕ) → put_out (ws ++ out) o ≡ ws ++ put_out out o
put_out-append ws out None = refl
put_out-append ws out (Some w) = append_assoc ws out (w ∷ [])

put_out-alone : (out : List ℕ) (o : Option ℕ) → put_out out o ≡ out ++ put_out [] o
put_out-alone out None = sym (append-nil out)
put_out-alone out (Some w) = refl

put_out_prefix : (out : List ℕ) (o : Option ℕ) → Prefix out (put_out out o)
put_out_prefix out None = prefix_reflexive out
put_out_prefix out (Some w) = (w ∷ [], refl)

pub grows : OutputGrows
grows s c n zero = rw (add-zero n) (prefix_reflexive (run s c n).output)
grows s c n (suc m) =
    let R : Ran = run s c (n + m) in
    rw (add-suc n m) (prefix_transitive (run s c n).output R.output (put_out R.output (turn c (n + m) R.state).1) (grows s c n m) (put_out_prefix R.output (turn c (n + m) R.state).1))

-- A step of a number other than a change's.

other_number : (m n : ℕ) → m ≢ n → (m == n) ≡ false
other_number m n h = grind arith

same_number : (n : ℕ) → (n == n) ≡ true
same_number n = grind arith

plain_turn : (c : Change) (n : ℕ) (s : State) → c.step ≢ n → turn (Some c) n s ≡ step s
plain_turn c n s h = rw (other_number c.step n h) refl

-- After an end nothing happens.

stands : (s : State) (e : End) → s.end ≡ Some e → step s ≡ (s, None)
stands s e h = rw h refl

flip_stands : (k : ChangeKind) (s : State) (e : End) → s.end ≡ Some e → replaced k s ≡ s
flip_stands (Flip r bit) s e h = rw h refl
flip_stands (Divert to) s e h = refl
flip_stands (Set p w) s e h = rw h refl

divert_stands : (k : ChangeKind) (s : State) (e : End) → s.end ≡ Some e → diverted k s ≡ s
divert_stands (Flip r bit) s e h = refl
divert_stands (Set p w) s e h = refl
divert_stands (Divert to) s e h = rw h refl

-- a step that does nothing, and a step that a divert follows
abbrev idle : State → State × Option ℕ
idle s = (s, None)

abbrev led : ChangeKind → State × Option ℕ → State × Option ℕ
led k x = (diverted k x.0, x.1)

changed_stands : (k : ChangeKind) (s f : State) (e : End) → s.end ≡ Some e → f ≡ s → led k (step f) ≡ idle s
changed_stands k s f e h same =
    ap (λ (x : State). led k (step x)) same ∙ (ap (λ (x : State × Option ℕ). led k x) (stands s e h) ∙ ap (λ (x : State). idle x) (divert_stands k s e h))

turn_stands : (c : Option Change) (n : ℕ) (s : State) (e : End) → s.end ≡ Some e → turn c n s ≡ idle s
turn_stands None n s e h = stands s e h
turn_stands (Some c) n s e h = elim (c.step == n) as (λ v. cond v (led c.kind (step (replaced c.kind s))) (step s) ≡ idle s) [
  | true ↦ changed_stands c.kind s (replaced c.kind s) e h (flip_stands c.kind s e h)
  | false ↦ stands s e h
]

pub stays : EndStays
stays s c e n zero h = rw (add-zero n) refl
stays s c e n (suc m) h =
    let R : Ran = run s c n in
    let same : run s c (n + m) ≡ R = stays s c e n m h in
    rw (add-suc n m) (ap (λ (r : Ran). after_turn r (turn c (n + m) r.state)) same ∙ ap (λ (t : State × Option ℕ). after_turn R t) (turn_stands c (n + m) R.state e h))

-- Runs cut at a step.

pub front : RunBegins
front s zero = ap (λ (o : List ℕ). let r : Ran = record { output = o; state = (step s).0 } in r) (sym (append-nil (put_out [] (step s).1)))
front s (suc n) =
    let R : Ran = run (step s).0 None n in
    let e : run s None (suc n) ≡ prefixed (put_out [] (step s).1) R = front s n in
    ap (λ (r : Ran). after_turn r (step r.state)) e ∙ ap (λ (o : List ℕ). let r : Ran = record { output = o; state = (step R.state).0 } in r) (put_out-append (put_out [] (step s).1) R.output (step R.state).1)

-- one more step of a run that goes on as another
one_more : (A B : Ran) (t : State × Option ℕ) → after_turn (joined A B) t ≡ joined A (after_turn B t)
one_more A B t = ap (λ (o : List ℕ). let r : Ran = record { output = o; state = t.0 } in r) (put_out-append A.output B.output t.1)

-- a run that goes on as itself, before its first step
unmoved : (A : Ran) → A ≡ joined A (run A.state None zero)
unmoved A = ap (λ (o : List ℕ). let r : Ran = record { output = o; state = A.state } in r) (sym (append-nil A.output))

pub joins : RunJoins
joins s n zero = rw (add-zero n) (unmoved (run s None n))
joins s n (suc k) =
    let A : Ran = run s None n in
    let B : Ran = run A.state None k in
    rw (add-suc n k) (ap (λ (r : Ran). after_turn r (step r.state)) (joins s n k) ∙ one_more A B (step B.state))

-- Runs with a change.

pub before : SameBefore
before s c zero h = refl
before s c (suc n) h =
    let e : run s (Some c) n ≡ run s None n = before s c n (omega arith) in
    ap (λ (r : Ran). after_turn r (turn (Some c) n r.state)) e ∙ ap (λ (t : State × Option ℕ). after_turn (run s None n) t) (plain_turn c n (run s None n).state (omega arith))

pub behind : CleanBehind
behind s c n zero h = rw (add-zero n) (unmoved (run s (Some c) n))
behind s c n (suc k) h =
    let A : Ran = run s (Some c) n in
    let B : Ran = run A.state None k in
    let e : run s (Some c) (n + k) ≡ joined A B = behind s c n k h in
    let t : turn (Some c) (n + k) B.state ≡ step B.state = plain_turn c (n + k) B.state (omega arith) in
    rw (add-suc n k) (ap (λ (r : Ran). after_turn r (turn (Some c) (n + k) r.state)) e ∙ (ap (λ (t : State × Option ℕ). after_turn (joined A B) t) t ∙ one_more A B (step B.state)))

suc_one : (n : ℕ) → suc n ≡ n + suc zero
suc_one n = omega arith

suc_two : (n k : ℕ) → suc (n + suc k) ≡ n + suc (suc k)
suc_two n k = omega arith

not_diverted : (kind : ChangeKind) (s : State) → ComesBefore kind → diverted kind s ≡ s
not_diverted (Flip r bit) s h = refl
not_diverted (Set p w) s h = refl
not_diverted (Divert to) s h = absurd h

-- the step of a change that comes before it
replaced_turn : (s : State) (n : ℕ) (kind : ChangeKind) → ComesBefore kind → turn (Some (record { step = n; kind = kind })) n s ≡ step (replaced kind s)
replaced_turn s n kind h = rw (same_number n) (ap (λ (x : State). (x, (step (replaced kind s)).1)) (not_diverted kind (step (replaced kind s)).0 h))

pub replace_splits : ReplaceSplits
replace_splits s n kind zero h =
    let c : Change = record { step = n; kind = kind } in
    let A : Ran = run s None n in
    let F : State = replaced kind A.state in
    subst (λ (m : ℕ). run s (Some c) m ≡ joined A (run F None 1)) (suc_one n)
    (ap (λ (x : Ran). after_turn x (turn (Some c) n x.state)) (before s c n (omega arith))
    ∙ (ap (λ (x : State × Option ℕ). after_turn A x) (replaced_turn A.state n kind h)
    ∙ ap (λ (o : List ℕ). let x : Ran = record { output = o; state = (step F).0 } in x) (put_out-alone A.output (step F).1)))
replace_splits s n kind (suc k) h =
    let c : Change = record { step = n; kind = kind } in
    let A : Ran = run s None n in
    let F : State = replaced kind A.state in
    let B : Ran = run F None (suc k) in
    subst (λ (m : ℕ). run s (Some c) m ≡ joined A (run F None (suc (suc k)))) (suc_two n k)
    (ap (λ (x : Ran). after_turn x (turn (Some c) (n + suc k) x.state)) (replace_splits s n kind k h)
    ∙ (ap (λ (x : State × Option ℕ). after_turn (joined A B) x) (plain_turn c (n + suc k) B.state (omega arith))
    ∙ one_more A B (step B.state)))

at_or_other : (n m : ℕ) → (n ≡ m) ⊎ (n ≢ m)
at_or_other n m = grind arith

pub flip_is_set : FlipIsSet
flip_is_set s n r bit zero = refl
flip_is_set s n r bit (suc k) =
    let w : ℕ = bit_xor (reg (run s None n).state r) (2 ^ bit) in
    let c : Change = record { step = n; kind = Flip r bit } in
    let d : Change = record { step = n; kind = Set (Reg r) w } in
    elim (at_or_other n k) as (λ z. run s (Some c) (suc k) ≡ run s (Some d) (suc k)) [
      | inl e ↦ subst (λ (m : ℕ). run s (Some c) (suc m) ≡ run s (Some d) (suc m)) e
          (ap (λ (x : Ran). after_turn x (turn (Some c) n x.state)) (before s c n (omega arith))
          ∙ (ap (λ (x : State × Option ℕ). after_turn (run s None n) x) (replaced_turn (run s None n).state n (Flip r bit) tt ∙ sym (replaced_turn (run s None n).state n (Set (Reg r) w) tt))
          ∙ sym (ap (λ (x : Ran). after_turn x (turn (Some d) n x.state)) (before s d n (omega arith)))))
      | inr e ↦ ap (λ (x : Ran). after_turn x (turn (Some c) k x.state)) (flip_is_set s n r bit k)
          ∙ ap (λ (x : State × Option ℕ). after_turn (run s (Some d) k) x) (plain_turn c k (run s (Some d) k).state e ∙ sym (plain_turn d k (run s (Some d) k).state e))
    ]

-- what stands after a divert's step
divert_step : (s : State) (n to : ℕ) → run s (Some (record { step = n; kind = Divert to })) (suc n) ≡ record { output = (run s None (suc n)).output; state = diverted (Divert to) (run s None (suc n)).state }
divert_step s n to =
    let c : Change = record { step = n; kind = Divert to } in
    let A : Ran = run s None n in
    let t : turn (Some c) n A.state ≡ (diverted (Divert to) (step A.state).0, (step A.state).1) = rw (same_number n) refl in
    ap (λ (x : Ran). after_turn x (turn (Some c) n x.state)) (before s c n (omega arith)) ∙ ap (λ (x : State × Option ℕ). after_turn A x) t

pub divert_splits : DivertSplits
divert_splits s n to k =
    let c : Change = record { step = n; kind = Divert to } in
    behind s c (suc n) k (omega arith) ∙ ap (λ (x : Ran). joined x (run x.state None k)) (divert_step s n to)
