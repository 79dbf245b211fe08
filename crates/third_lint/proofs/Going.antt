-- Two runs from two states that stand in a relation, up to a number of steps: where each step keeps it or ends the second run by an end that
-- tells of a fault, the second run shows what the first does or has told.
use Rattle.std.proofs.Common.{◌≡◌, ◌≢◌, ℕ, zero, suc, ◌+◌, ◌-◌, ◌≤◌, ◌<◌, arith, ap, refl, sym, ◌∙◌, subst, List, [], ◌∷◌, ◌++◌, append-nil, append_assoc, add-zero, add-suc, length, get_or, false, true, cond, inl, inr}
use Rattle.std.specs.Prelude.{Option, Some, None, ◌⊎◌, ◌==◌, ◌&&◌, ◌%◌, is_none, slice_set}
use Rattle.std.proofs.lemmas.Grind.{common_steps}
use Rattle.hard_runs.specs.Observed.{Prefix}
use Rattle.hard_runs.proofs.Observed.{prefix_reflexive, prefix_transitive}
use Rattle.hard_words.specs.declared.ChangeKind.TheVariants.{Set}
use Rattle.hard_words.specs.declared.SetPlace.{SetPlace}
use Rattle.hard_words.specs.declared.SetPlace.TheVariants.{Reg, Hi, Lo, Memory}
use Rattle.mips_isa.specs.declared.instr.End.{End}
use Rattle.mips_isa.specs.Machine.{State, step, written, in_memory, place}
use Rattle.mips_faults.specs.Beside.{SameKept, Beside}
use Rattle.mips_isa.specs.Runs.{Ran, run, put_out, after_turn, replaced, with_word}
use Rattle.mips_laws.specs.RunLaws.{joined}
use Rattle.mips_faults.specs.Faults.{Unseen}
use Rattle.mips_laws.proofs.Runs.{before, replace_splits}
use Rattle.lint_lockstep.specs.Law.{FreeAt}
use Rattle.third_lint.specs.Theorems.{ToldBy}

outs : (oa ob : List ℕ) (x y : Option ℕ) → ob ≡ oa → y ≡ x → put_out ob y ≡ put_out oa x
outs oa ob x y h e = rw (h, e) refl

longer : (out : List ℕ) (o : Option ℕ) → Prefix out (put_out out o)
longer out None = prefix_reflexive out
longer out (Some w) = (w ∷ [], refl)

silent : (oa ob : List ℕ) (x y : Option ℕ) → Prefix ob oa → y ≡ None → Prefix (put_out ob y) (put_out oa x)
silent oa ob x y h e = rw e (prefix_transitive ob oa (put_out oa x) h (longer oa x))

equal_prefix : (oa ob : List ℕ) → ob ≡ oa → Prefix ob oa
equal_prefix oa ob h = ([], sym h ∙ sym (append-nil ob))

stands : (s : State) (e : End) → s.end ≡ Some e → step s ≡ (s, None)
stands s e h = rw h refl

pub ended_step : (s : State) (e : End) → s.end ≡ Some e → ((step s).0.end ≡ Some e) × ((step s).1 ≡ None)
ended_step s e h = (ap (λ (x : State × Option ℕ). x.0.end) (stands s e h) ∙ h, ap (λ (x : State × Option ℕ). x.1) (stands s e h))

-- what two steps leave: an end for both or none and, where none, two states that stand in the relation; or an end of the
-- second that tells
pub data Goes (Tells : End → Type 0) (Rel : State → State → Type 0) (x y : State × Option ℕ) : Type 0 where
  both : (x.0.end ≡ None → Rel x.0 y.0) → y.0.end ≡ x.0.end → y.1 ≡ x.1 → Goes Tells Rel x y
  fails : (e : End) → Tells e → y.0.end ≡ Some e → y.1 ≡ None → Goes Tells Rel x y

-- what a two-run theorem goes by, for the first N steps of a run without a change
pub record Guide (N : ℕ) (start : State) (Tells : End → Type 0) (Good : State → Type 0) (Rel : State → State → Type 0) : Type 0 where
  pub pair : (m : ℕ) → m < N → Good (run start None m).state → (run start None m).state.end ≡ None → (t : State) → Rel (run start None m).state t → Goes Tells Rel (step (run start None m).state) (step t)
  pub next : (m : ℕ) → m < N → Good (run start None m).state → (run start None m).state.end ≡ None → (step (run start None m).state).0.end ≡ None → Good (step (run start None m).state).0
  pub ends : (s t : State) → Rel s t → t.end ≡ s.end

-- how two runs stand after the same number of steps
pub data Stage (Tells : End → Type 0) (Good : State → Type 0) (Rel : State → State → Type 0) (a b : Ran) : Type 0 where
  level : Good a.state → a.state.end ≡ None → Rel a.state b.state → b.output ≡ a.output → Stage Tells Good Rel a b
  done : (e : End) → a.state.end ≡ Some e → b.state.end ≡ Some e → b.output ≡ a.output → Stage Tells Good Rel a b
  failed : ToldBy Tells b a → Stage Tells Good Rel a b

-- where the run without a change stands
pub data Fate (Good : State → Type 0) (s : State) : Type 0 where
  good : Good s → s.end ≡ None → Fate Good s
  over_by : (e : End) → s.end ≡ Some e → Fate Good s

replaced_ended : (s : State) (p : SetPlace) (w : ℕ) (e : End) → s.end ≡ Some e → replaced (Set p w) s ≡ s
replaced_ended s p w e h = rw h refl

more : (ws out : List ℕ) (o : Option ℕ) → put_out (ws ++ out) o ≡ ws ++ put_out out o
more ws out None = refl
more ws out (Some w) = append_assoc ws out (w ∷ [])

one_more : (A B : Ran) (t : State × Option ℕ) → after_turn (joined A B) t ≡ joined A (after_turn B t)
one_more A B t = ap (λ (o : List ℕ). let r : Ran = record { output = o; state = t.0 } in r) (more A.output B.output t.1)

less : (n k N : ℕ) → n + suc k ≤ N → n + k < N
less n k N h = omega arith

less_more : (n k N : ℕ) → n + suc k ≤ N → n + k ≤ N
less_more n k N h = omega arith

earlier : (n N : ℕ) → suc n ≤ N → n ≤ N
earlier n N h = omega arith

under : (n N : ℕ) → suc n ≤ N → n < N
under n N h = omega arith

later_or : (n k : ℕ) → (k ≤ n) ⊎ (n < k)
later_or n k = grind arith

rest : (n k : ℕ) → n < k → n + suc (k - suc n) ≡ k
rest n k h = omega arith

at_most : (n k N : ℕ) → n < k → k ≤ N → n ≤ N
at_most n k N h l = omega arith

module _ (Tells : End → Type 0) (Good : State → Type 0) (Rel : State → State → Type 0) where
  abbrev Level : Ran → Ran → Type 0
  Level a b = Stage Tells Good Rel a b

  went : (a b : Ran) → b.output ≡ a.output → (x y : State × Option ℕ) → (o : Option End) → x.0.end ≡ o → (x.0.end ≡ None → Good x.0) → Goes Tells Rel x y → Level (after_turn a x) (after_turn b y)
  went a b o x y None h g (both r e p) = level (g h) h (r h) (outs a.output b.output x.1 y.1 o p)
  went a b o x y (Some n) h g (both r e p) = done n h (e ∙ h) (outs a.output b.output x.1 y.1 o p)
  went a b o x y z h g (fails c t e n) = failed (record { end = c; is = e; tells = t; output = silent a.output b.output x.1 y.1 (equal_prefix a.output b.output o) n })

  next_stage : (a b : Ran) → (Good a.state → a.state.end ≡ None → (t : State) → Rel a.state t → Goes Tells Rel (step a.state) (step t)) → (Good a.state → a.state.end ≡ None → (step a.state).0.end ≡ None → Good (step a.state).0) → Level a b → Level (after_turn a (step a.state)) (after_turn b (step b.state))
  next_stage a b p n (level g e r o) = went a b o (step a.state) (step b.state) (step a.state).0.end refl (n g e) (p g e b.state r)
  next_stage a b p n (done e h k o) =
      let x : ((step a.state).0.end ≡ Some e) × ((step a.state).1 ≡ None) = ended_step a.state e h in
      let y : ((step b.state).0.end ≡ Some e) × ((step b.state).1 ≡ None) = ended_step b.state e k in
      done e x.0 y.0 (outs a.output b.output (step a.state).1 (step b.state).1 o (y.1 ∙ sym x.1))
  next_stage a b p n (failed f) =
      let y : ((step b.state).0.end ≡ Some f.end) × ((step b.state).1 ≡ None) = ended_step b.state f.end f.is in
      failed (record { end = f.end; is = y.0; tells = f.tells; output = silent a.output b.output (step a.state).1 (step b.state).1 f.output y.1 })

  seen : (a b : Ran) → ((s t : State) → Rel s t → t.end ≡ s.end) → Level a b → Unseen b a ⊎ ToldBy Tells b a
  seen a b f (level g e r o) = inl (record { output = o; end = f a.state b.state r })
  seen a b f (done e p q o) = inl (record { output = o; end = q ∙ sym p })
  seen a b f (failed x) = inr x

  -- a change that puts the two states in the relation
  abbrev pub Puts : State → SetPlace → ℕ → Type 0
  Puts s p w = Good s → s.end ≡ None → Rel s (replaced (Set p w) s)

  first_stage : (a b : Ran) (p : SetPlace) (w : ℕ) → Fate Good a.state → Puts a.state p w → b.state ≡ replaced (Set p w) a.state → b.output ≡ a.output → Level a b
  first_stage a b p w (good g e) f h o = level g e (subst (λ (x : State). Rel a.state x) (sym h) (f g e)) o
  first_stage a b p w (over_by e x) f h o = done e x (ap (λ (y : State). y.end) (h ∙ replaced_ended a.state p w e x) ∙ x) o

  stages : (N : ℕ) (start : State) → Guide N start Tells Good Rel → (n : ℕ) (p : SetPlace) (w : ℕ) → Fate Good (run start None n).state → Puts (run start None n).state p w → (k : ℕ) → n + k ≤ N → Level (run start None (n + k)) (joined (run start None n) (run (replaced (Set p w) (run start None n).state) None k))
  stages N start g n p w t f zero h = rw (add-zero n) (first_stage (run start None n) (joined (run start None n) (run (replaced (Set p w) (run start None n).state) None zero)) p w t f refl (append-nil (run start None n).output))
  stages N start g n p w t f (suc k) h =
      let A : Ran = run start None n in
      let a : Ran = run start None (n + k) in
      let B : Ran = run (replaced (Set p w) A.state) None k in
      rw (add-suc n k) (subst (λ (x : Ran). Level (after_turn a (step a.state)) x) (one_more A B (step B.state))
      (next_stage a (joined A B) (g.pair (n + k) (less n k N h)) (g.next (n + k) (less n k N h)) (stages N start g n p w t f k (less_more n k N h))))

  fate_on : (s : State) → ((step s).0.end ≡ None → Good (step s).0) → (o : Option End) → (step s).0.end ≡ o → Fate Good (step s).0
  fate_on s f None x = good (f x) x
  fate_on s f (Some z) x = over_by z x

  next_fate : (s : State) → (Good s → s.end ≡ None → (step s).0.end ≡ None → Good (step s).0) → Fate Good s → Fate Good (step s).0
  next_fate s f (good g e) = fate_on s (f g e) (step s).0.end refl
  next_fate s f (over_by e x) = over_by e (ended_step s e x).0

  pub fates : (N : ℕ) (start : State) → Guide N start Tells Good Rel → Good start → start.end ≡ None → (n : ℕ) → n ≤ N → Fate Good (run start None n).state
  fates N start g s e zero h = good s e
  fates N start g s e (suc n) h = next_fate (run start None n).state (g.next n (under n N h)) (fates N start g s e n (earlier n N h))

  abbrev pub Shown : State → (n : ℕ) → SetPlace → (w k : ℕ) → Type 0
  Shown start n p w k = Unseen (run start (Some (record { step = n; kind = Set p w })) k) (run start None k) ⊎ ToldBy Tells (run start (Some (record { step = n; kind = Set p w })) k) (run start None k)

  unseen_before : (start : State) (n : ℕ) (p : SetPlace) (w k : ℕ) → k ≤ n → Shown start n p w k
  unseen_before start n p w k h = inl (record {
    output = ap (λ (x : Ran). x.output) (before start (record { step = n; kind = Set p w }) k h);
    end = ap (λ (x : Ran). x.state.end) (before start (record { step = n; kind = Set p w }) k h);
  })

  after_by : (N : ℕ) (start : State) → Guide N start Tells Good Rel → Good start → start.end ≡ None → (n : ℕ) (p : SetPlace) (w : ℕ) → Puts (run start None n).state p w → (j : ℕ) → n + suc j ≤ N → n ≤ N → Shown start n p w (n + suc j)
  after_by N start g s e n p w f j h l =
      let A : Ran = run start None n in
      subst (λ (x : Ran). Unseen x (run start None (n + suc j)) ⊎ ToldBy Tells x (run start None (n + suc j))) (sym (replace_splits start n (Set p w) j tt))
      (seen (run start None (n + suc j)) (joined A (run (replaced (Set p w) A.state) None (suc j))) g.ends (stages N start g n p w (fates N start g s e n l) f (suc j) h))

  pub shown : (N : ℕ) (start : State) → Guide N start Tells Good Rel → Good start → start.end ≡ None → (n : ℕ) (p : SetPlace) (w : ℕ) → Puts (run start None n).state p w → (k : ℕ) → k ≤ N → Shown start n p w k
  shown N start g s e n p w f k h = elim (later_or n k) as (λ z. Shown start n p w k) [
    | inl l ↦ unseen_before start n p w k l
    | inr l ↦ subst (λ (x : ℕ). Shown start n p w x) (rest n k l) (after_by N start g s e n p w f (k - suc n) (subst (λ (x : ℕ). x ≤ N) (sym (rest n k l)) h) (at_most n k N l h))
  ]

module _ (keep : ℕ → ℕ → Type 0) (halves : ℕ → Type 0) (M : ℕ → Type 0) where
  -- the state that a change leaves is beside the one before it
  put_len : (x : List ℕ) (q v : ℕ) → length x ≡ length (slice_set x q v)
  put_len x q v = grind (arith, common_steps)

  put_other : (x : List ℕ) (r v q : ℕ) → q ≢ r → get_or x q 0 ≡ get_or (slice_set x r v) q 0
  put_other x r v q n = grind (arith, common_steps)

  put_kept : (K : ℕ → Type 0) (x : List ℕ) (r v : ℕ) → (K r → ⊥) → SameKept K x (slice_set x r v)
  put_kept K x r v n = record { len = put_len x r v; same = λ q k. put_other x r v q (λ e. n (subst K e k)) }

  same_kept : (K : ℕ → Type 0) (x : List ℕ) → SameKept K x x
  same_kept K x = record { len = refl; same = λ q k. refl }

  written_kept : (K : ℕ → Type 0) (x : List ℕ) (r v : ℕ) → (K r → ⊥) → SameKept K x (written x r v)
  written_kept K x r v n = elim (r == 0) as (λ z. SameKept K x (cond z x (slice_set x r v))) [ true ↦ same_kept K x | false ↦ put_kept K x r v n ]

  beside_self : (s : State) → Beside (keep s.pc) (halves s.pc) M s s
  beside_self s = record { regs = s.regs; hi = s.hi; lo = s.lo; memory = s.memory; is = refl; words = same_kept M s.memory; kept = same_kept (keep s.pc) s.regs; halves = λ p. (refl, refl) }

  word_beside : (s : State) (p : SetPlace) (w : ℕ) → FreeAt keep halves M s p → Beside (keep s.pc) (halves s.pc) M s (with_word s p w)
  word_beside s (Reg r) w f = record { regs = written s.regs r w; hi = s.hi; lo = s.lo; memory = s.memory; is = refl; words = same_kept M s.memory; kept = written_kept (keep s.pc) s.regs r w f; halves = λ p. (refl, refl) }
  word_beside s Hi w f = record { regs = s.regs; hi = w; lo = s.lo; memory = s.memory; is = refl; words = same_kept M s.memory; kept = same_kept (keep s.pc) s.regs; halves = λ p. absurd (f p) }
  word_beside s Lo w f = record { regs = s.regs; hi = s.hi; lo = w; memory = s.memory; is = refl; words = same_kept M s.memory; kept = same_kept (keep s.pc) s.regs; halves = λ p. absurd (f p) }
  word_beside s (Memory a) w f = elim ((a % 4 == 0) && in_memory s a) as (λ z. Beside (keep s.pc) (halves s.pc) M s (cond z (record s { memory = slice_set s.memory (place a) w }) s)) [
    | true ↦ record { regs = s.regs; hi = s.hi; lo = s.lo; memory = slice_set s.memory (place a) w; is = refl; words = put_kept M s.memory (place a) w f; kept = same_kept (keep s.pc) s.regs; halves = λ p. (refl, refl) }
    | false ↦ beside_self s
  ]

  pub replaced_beside : (s : State) (p : SetPlace) (w : ℕ) → s.end ≡ None → FreeAt keep halves M s p → Beside (keep s.pc) (halves s.pc) M s (replaced (Set p w) s)
  replaced_beside s p w e f = subst (λ (o : Option End). Beside (keep s.pc) (halves s.pc) M s (cond (is_none o) (with_word s p w) s)) (sym e) (word_beside s p w f)
