-- Two runs from two states side by side, up to a number of steps.
use Rattle.std.proofs.Common.{◌≡◌, ◌≢◌, ℕ, zero, suc, ◌+◌, ◌-◌, ◌≤◌, ◌<◌, arith, rules, ap, refl, sym, ◌∙◌, subst, List, [], ◌∷◌, ◌++◌, append-nil, append_assoc, add-zero, add-suc, length, get_or, false, true, cond, inl, inr}
use Rattle.std.specs.Prelude.{Option, Some, None, ◌⊎◌, ◌==◌, ◌&&◌, ◌%◌, is_none, slice_set, IsTrue}
use Rattle.std.proofs.lemmas.Grind.{common_steps}
use Rattle.hard_runs.specs.Observed.{Prefix}
use Rattle.hard_words.specs.declared.ChangeKind.TheVariants.{Set}
use Rattle.hard_words.specs.declared.SetPlace.{SetPlace}
use Rattle.hard_words.specs.declared.SetPlace.TheVariants.{Reg, Hi, Lo, Memory}
use Rattle.hard_runs.proofs.Observed.{prefix_reflexive, prefix_transitive}
use Rattle.mips_isa.specs.declared.instr.Instr.{Instr}
use Rattle.mips_isa.specs.declared.instr.End.{End}
use Rattle.mips_isa.specs.declared.instr.End.TheVariants.{Exception, Reported}
use Rattle.mips_isa.specs.Machine.{State, act, step, planned, moved, with_reg, written, in_memory, place}
use Rattle.mips_isa.specs.Runs.{Ran, run, put_out, after_turn, replaced, with_word}
use Rattle.mips_laws.specs.RunLaws.{joined}
use Rattle.mips_text.specs.Text.{At}
use Rattle.mips_faults.specs.Beside.{with_parts, SameKept, Beside, on, over, fails, IsCalm}
use Rattle.mips_faults.specs.Faults.{Unseen, Told, Tells}
use Rattle.mips_laws.proofs.Runs.{before, replace_splits}
use Rattle.lint_lockstep.specs.Sorts.{Sort, Doomed}
use Rattle.lint_lockstep.specs.Law.{Guide, FreeAt, Shown, TwoRuns, TwoRunsKept}
use Rattle.lint_lockstep.proofs.Fetch.{Slot, Quiet, slot_of, quiet_of, slot_goes, slot_reports, slot_silent, quiet_goes}
use Rattle.lint_lockstep.proofs.Sorts.{Went, both_take, late, early, pair_step}

-- how two runs stand after the same number of steps
pub data Stage (Good : State → Type 0) (keep : ℕ → ℕ → Type 0) (halves : ℕ → Type 0) (M : ℕ → Type 0) (a b : Ran) : Type 0 where
  level : Good a.state → a.state.end ≡ None → Beside (keep a.state.pc) (halves a.state.pc) M a.state b.state → b.output ≡ a.output → Stage Good keep halves M a b
  done : (e : End) → a.state.end ≡ Some e → b.state.end ≡ Some e → b.output ≡ a.output → Stage Good keep halves M a b
  at_slot : Quiet a.state → Slot b.state → b.output ≡ a.output → Stage Good keep halves M a b
  at_break : a.state.end ≡ None → (u : State) → (k : Slot u) → b.state ≡ with_reg (moved u) k.d k.v → b.output ≡ a.output → Stage Good keep halves M a b
  told : (e : End) → Tells e → b.state.end ≡ Some e → Prefix b.output a.output → Stage Good keep halves M a b
  early_slot : Slot a.state → Quiet b.state → b.output ≡ a.output → Stage Good keep halves M a b
  early_break : (u : State) → (k : Slot u) → a.state ≡ with_reg (moved u) k.d k.v → b.state.end ≡ None → b.output ≡ a.output → Stage Good keep halves M a b

outs : (oa ob : List ℕ) (x y : Option ℕ) → ob ≡ oa → y ≡ x → put_out ob y ≡ put_out oa x
outs oa ob x y h e = rw (h, e) refl

longer : (out : List ℕ) (o : Option ℕ) → Prefix out (put_out out o)
longer out None = prefix_reflexive out
longer out (Some w) = (w ∷ [], refl)

silent : (oa ob : List ℕ) (x y : Option ℕ) → Prefix ob oa → y ≡ None → Prefix (put_out ob y) (put_out oa x)
silent oa ob x y h e = rw e (prefix_transitive ob oa (put_out oa x) h (longer oa x))

equal_prefix : (oa ob : List ℕ) → ob ≡ oa → Prefix ob oa
equal_prefix oa ob h = ([], sym h ∙ sym (append-nil ob))

stands : (s : State) (e : End) → s.end ≡ Some e → step s ≡ (s, None)
stands s e h = rw h refl

ended_step : (s : State) (e : End) → s.end ≡ Some e → ((step s).0.end ≡ Some e) × ((step s).1 ≡ None)
ended_step s e h = (ap (λ (x : State × Option ℕ). x.0.end) (stands s e h) ∙ h, ap (λ (x : State × Option ℕ). x.1) (stands s e h))

beside_end : (K : ℕ → Type 0) (P : Type 0) (M : ℕ → Type 0) (s t : State) → Beside K P M s t → t.end ≡ s.end
beside_end K P M s t b = ap (λ (u : State). u.end) b.is

-- a state beside one that is about to report behind a branch does a plain word
doomed_quiet : (K : ℕ → Type 0) (P : Type 0) (M : ℕ → Type 0) (s t : State) → Doomed s → Beside K P M s t → Quiet t
doomed_quiet K P M s t d b = subst Quiet (sym b.is) (quiet_of (with_parts s b.regs b.hi b.lo b.memory) s.pc s.npc d.going d.unloaded refl d.behind)

some_none : (e : End) → Some e ≡ None → ⊥
some_none e h = search (rules, h)

module _ (Good : State → Type 0) (keep : ℕ → ℕ → Type 0) (halves : ℕ → Type 0) (M : ℕ → Type 0) where
  -- both go on, side by side
  on_stage : (s : State) (a b : Ran) → b.output ≡ a.output → (x y : State × Option ℕ) → (o : Option End) → x.0.end ≡ o → (x.0.end ≡ None → (Good x.0 × (x.0.pc ≡ s.npc)) ⊎ Doomed x.0) → Beside (keep s.npc) (halves s.npc) M x.0 y.0 → y.1 ≡ x.1 → Stage Good keep halves M (after_turn a x) (after_turn b y)
  on_stage s a b o x y (Some e) h f d p = done e h (beside_end (keep s.npc) (halves s.npc) M x.0 y.0 d ∙ h) (outs a.output b.output x.1 y.1 o p)
  on_stage s a b o x y None h f d p = elim (f h) as (λ z. Stage Good keep halves M (after_turn a x) (after_turn b y)) [
    | inl g ↦ level g.0 h (subst (λ (c : ℕ). Beside (keep c) (halves c) M x.0 y.0) (sym g.1) d) (outs a.output b.output x.1 y.1 o p)
    | inr g ↦ early_slot (slot_of x.0 g) (doomed_quiet (keep s.npc) (halves s.npc) M x.0 y.0 g d) (outs a.output b.output x.1 y.1 o p)
  ]

  went_stage : (s : State) (a b : Ran) → b.output ≡ a.output → (x y : State × Option ℕ) → (x.0.end ≡ None → (Good x.0 × (x.0.pc ≡ s.npc)) ⊎ Doomed x.0) → Went (keep s.npc) (halves s.npc) M x y → Stage Good keep halves M (after_turn a x) (after_turn b y)
  went_stage s a b o x y f (inl (on d p)) = on_stage s a b o x y x.0.end refl f d p
  went_stage s a b o x y f (inl (over e p q r)) = done e p q (outs a.output b.output x.1 y.1 o r)
  went_stage s a b o x y f (inl (fails c at t e n)) = told (Exception c at) t e (silent a.output b.output x.1 y.1 (equal_prefix a.output b.output o) n)
  went_stage s a b o x y f (inr (both_take d p)) = on_stage s a b o x y x.0.end refl f d p
  went_stage s a b o x y f (inr (late q n k m)) = at_slot q k (outs a.output b.output x.1 y.1 o (m ∙ sym n))
  went_stage s a b o x y f (inr (early k n q m)) = early_slot k q (outs a.output b.output x.1 y.1 o (m ∙ sym n))

  -- what holds of the first state at a step
  pub record Here (s : State) : Type 0 where
    pub zero : keep s.pc 0
    pub calm : s.end ≡ None → IsCalm (step s)
    pub sort : Good s → s.end ≡ None → (i : Instr) → At s.text s.pc i → planned s ≡ act i s → Sort (keep s.pc) (keep s.npc) (halves s.pc) (halves s.npc) M s i
    pub next : Good s → s.end ≡ None → (step s).0.end ≡ None → (Good (step s).0 × ((step s).0.pc ≡ s.npc)) ⊎ Doomed (step s).0
    pub unreported : (code at : ℕ) → (step s).0.end ≡ Some (Reported code at) → ⊥

  next_stage : (a b : Ran) → Here a.state → Stage Good keep halves M a b → Stage Good keep halves M (after_turn a (step a.state)) (after_turn b (step b.state))
  next_stage a b h (level g e d o) = went_stage a.state a b o (step a.state) (step b.state) (h.next g e) (pair_step (keep a.state.pc) (keep a.state.npc) (halves a.state.pc) (halves a.state.npc) M a.state b.state h.zero e d (h.calm e) (h.sort g e))
  next_stage a b h (done n p q o) =
      let x : ((step a.state).0.end ≡ Some n) × ((step a.state).1 ≡ None) = ended_step a.state n p in
      let y : ((step b.state).0.end ≡ Some n) × ((step b.state).1 ≡ None) = ended_step b.state n q in
      done n x.0 y.0 (outs a.output b.output (step a.state).1 (step b.state).1 o (y.1 ∙ sym x.1))
  next_stage a b h (at_slot q k o) =
      let x : step a.state ≡ (with_reg (moved a.state) q.d q.v, None) = quiet_goes a.state q in
      let y : step b.state ≡ (with_reg (moved b.state) k.d k.v, None) = slot_goes b.state k in
      at_break (ap (λ (x : State × Option ℕ). x.0.end) x ∙ q.going) b.state k (ap (λ (x : State × Option ℕ). x.0) y) (outs a.output b.output (step a.state).1 (step b.state).1 o (ap (λ (x : State × Option ℕ). x.1) y ∙ sym (ap (λ (x : State × Option ℕ). x.1) x)))
  next_stage a b h (at_break n u k e o) =
      told (Reported k.code k.at) tt (ap (λ (x : State). (step x).0.end) e ∙ slot_reports u k) (silent a.output b.output (step a.state).1 (step b.state).1 (equal_prefix a.output b.output o) (ap (λ (x : State). (step x).1) e ∙ slot_silent u k))
  next_stage a b h (told n g e p) =
      let y : ((step b.state).0.end ≡ Some n) × ((step b.state).1 ≡ None) = ended_step b.state n e in
      told n g y.0 (silent a.output b.output (step a.state).1 (step b.state).1 p y.1)
  next_stage a b h (early_slot k q o) =
      let x : step a.state ≡ (with_reg (moved a.state) k.d k.v, None) = slot_goes a.state k in
      let y : step b.state ≡ (with_reg (moved b.state) q.d q.v, None) = quiet_goes b.state q in
      early_break a.state k (ap (λ (x : State × Option ℕ). x.0) x) (ap (λ (x : State × Option ℕ). x.0.end) y ∙ q.going) (outs a.output b.output (step a.state).1 (step b.state).1 o (ap (λ (x : State × Option ℕ). x.1) y ∙ sym (ap (λ (x : State × Option ℕ). x.1) x)))
  next_stage a b h (early_break u k e n o) = absurd (h.unreported k.code k.at (ap (λ (x : State). (step x).0.end) e ∙ slot_reports u k))

  -- what is seen of a stage
  seen : (a b : Ran) → Stage Good keep halves M a b → Unseen b a ⊎ Told b a
  seen a b (level g e d o) = inl (record { output = o; end = beside_end (keep a.state.pc) (halves a.state.pc) M a.state b.state d })
  seen a b (done e p q o) = inl (record { output = o; end = q ∙ sym p })
  seen a b (at_slot q k o) = inl (record { output = o; end = k.going ∙ sym q.going })
  seen a b (at_break n u k e o) = inl (record { output = o; end = (ap (λ (x : State). x.end) e ∙ k.going) ∙ sym n })
  seen a b (told e g h p) = inr (record { end = e; is = h; tells = g; output = p })
  seen a b (early_slot k q o) = inl (record { output = o; end = q.going ∙ sym k.going })
  seen a b (early_break u k e n o) = inl (record { output = o; end = n ∙ sym (ap (λ (x : State). x.end) e ∙ k.going) })

  -- the state that a change leaves is beside the one before it
  put_len : (x : List ℕ) (q v : ℕ) → length x ≡ length (slice_set x q v)
  put_len x q v = grind (arith, common_steps)

  put_other : (x : List ℕ) (r v q : ℕ) → q ≢ r → get_or x q 0 ≡ get_or (slice_set x r v) q 0
  put_other x r v q n = grind (arith, common_steps)

  put_kept : (K : ℕ → Type 0) (x : List ℕ) (r v : ℕ) → (K r → ⊥) → SameKept K x (slice_set x r v)
  put_kept K x r v n = record { len = put_len x r v; same = λ q k. put_other x r v q (λ e. n (subst K e k)) }

  same_kept : (K : ℕ → Type 0) (x : List ℕ) → SameKept K x x
  same_kept K x = record { len = refl; same = λ q k. refl }

  written_kept : (K : ℕ → Type 0) (x : List ℕ) (r v : ℕ) → (K r → ⊥) → SameKept K x (written x r v)
  written_kept K x r v n = elim (r == 0) as (λ z. SameKept K x (cond z x (slice_set x r v))) [ true ↦ same_kept K x | false ↦ put_kept K x r v n ]

  beside_self : (s : State) → Beside (keep s.pc) (halves s.pc) M s s
  beside_self s = record { regs = s.regs; hi = s.hi; lo = s.lo; memory = s.memory; is = refl; words = same_kept M s.memory; kept = same_kept (keep s.pc) s.regs; halves = λ p. (refl, refl) }

  word_beside : (s : State) (p : SetPlace) (w : ℕ) → FreeAt keep halves M s p → Beside (keep s.pc) (halves s.pc) M s (with_word s p w)
  word_beside s (Reg r) w f = record { regs = written s.regs r w; hi = s.hi; lo = s.lo; memory = s.memory; is = refl; words = same_kept M s.memory; kept = written_kept (keep s.pc) s.regs r w f; halves = λ p. (refl, refl) }
  word_beside s Hi w f = record { regs = s.regs; hi = w; lo = s.lo; memory = s.memory; is = refl; words = same_kept M s.memory; kept = same_kept (keep s.pc) s.regs; halves = λ p. absurd (f p) }
  word_beside s Lo w f = record { regs = s.regs; hi = s.hi; lo = w; memory = s.memory; is = refl; words = same_kept M s.memory; kept = same_kept (keep s.pc) s.regs; halves = λ p. absurd (f p) }
  word_beside s (Memory a) w f = elim ((a % 4 == 0) && in_memory s a) as (λ z. Beside (keep s.pc) (halves s.pc) M s (cond z (record s { memory = slice_set s.memory (place a) w }) s)) [
    | true ↦ record { regs = s.regs; hi = s.hi; lo = s.lo; memory = slice_set s.memory (place a) w; is = refl; words = put_kept M s.memory (place a) w f; kept = same_kept (keep s.pc) s.regs; halves = λ p. (refl, refl) }
    | false ↦ beside_self s
  ]

  replaced_beside : (s : State) (p : SetPlace) (w : ℕ) → s.end ≡ None → FreeAt keep halves M s p → Beside (keep s.pc) (halves s.pc) M s (replaced (Set p w) s)
  replaced_beside s p w e f = subst (λ (o : Option End). Beside (keep s.pc) (halves s.pc) M s (cond (is_none o) (with_word s p w) s)) (sym e) (word_beside s p w f)

  replaced_ended : (s : State) (p : SetPlace) (w : ℕ) (e : End) → s.end ≡ Some e → replaced (Set p w) s ≡ s
  replaced_ended s p w e h = rw h refl

  word_end : (s : State) (p : SetPlace) (w : ℕ) → (with_word s p w).end ≡ s.end
  word_end s (Reg r) w = refl
  word_end s Hi w = refl
  word_end s Lo w = refl
  word_end s (Memory a) w = elim ((a % 4 == 0) && in_memory s a) as (λ z. (cond z (record s { memory = slice_set s.memory (place a) w }) s).end ≡ s.end) [ true ↦ refl | false ↦ refl ]

  replaced_end : (s : State) (p : SetPlace) (w : ℕ) → s.end ≡ None → (replaced (Set p w) s).end ≡ None
  replaced_end s p w e = subst (λ (o : Option End). (cond (is_none o) (with_word s p w) s).end ≡ None) (sym e) (word_end s p w ∙ e)

  -- where the run without a change stands
  pub data Fate (s : State) : Type 0 where
    good : Good s → s.end ≡ None → Fate s
    over_by : (e : End) → s.end ≡ Some e → Fate s
    slot_next : Doomed s → Fate s
    break_next : (u : State) → (k : Slot u) → s ≡ with_reg (moved u) k.d k.v → Fate s

  abbrev Level : Ran → Ran → Type 0
  Level a b = Stage Good keep halves M a b

  first_stage : (a b : Ran) (p : SetPlace) (w : ℕ) → Fate a.state → FreeAt keep halves M a.state p → b.state ≡ replaced (Set p w) a.state → b.output ≡ a.output → Level a b
  first_stage a b p w (good g e) f h o = level g e (subst (λ (x : State). Beside (keep a.state.pc) (halves a.state.pc) M a.state x) (sym h) (replaced_beside a.state p w e f)) o
  first_stage a b p w (over_by e h') f h o = done e h' (ap (λ (x : State). x.end) (h ∙ replaced_ended a.state p w e h') ∙ h') o
  first_stage a b p w (slot_next d) f h o = early_slot (slot_of a.state d) (subst Quiet (sym h) (doomed_quiet (keep a.state.pc) (halves a.state.pc) M a.state (replaced (Set p w) a.state) d (replaced_beside a.state p w d.going f))) o
  first_stage a b p w (break_next u k e) f h o = early_break u k e (ap (λ (x : State). x.end) h ∙ replaced_end a.state p w (ap (λ (x : State). x.end) e ∙ k.going)) o

  more : (ws out : List ℕ) (o : Option ℕ) → put_out (ws ++ out) o ≡ ws ++ put_out out o
  more ws out None = refl
  more ws out (Some w) = append_assoc ws out (w ∷ [])

  one_more : (A B : Ran) (t : State × Option ℕ) → after_turn (joined A B) t ≡ joined A (after_turn B t)
  one_more A B t = ap (λ (o : List ℕ). let r : Ran = record { output = o; state = t.0 } in r) (more A.output B.output t.1)

  less : (n k N : ℕ) → n + suc k ≤ N → n + k < N
  less n k N h = omega arith

  less_more : (n k N : ℕ) → n + suc k ≤ N → n + k ≤ N
  less_more n k N h = omega arith

  here_of : (N : ℕ) (start : State) → Guide N start Good keep halves M → (m : ℕ) → suc m ≤ N → m < N → Here (run start None m).state
  here_of N start g m h l = record {
    zero = g.zero (run start None m).state.pc;
    calm = g.calm m l;
    sort = g.sort m l;
    next = g.next m l;
    unreported = g.unreported (suc m) h;
  }

  suc_of : (n k N : ℕ) → n + suc k ≤ N → suc (n + k) ≤ N
  suc_of n k N h = omega arith

  stages : (N : ℕ) (start : State) → Guide N start Good keep halves M → (n : ℕ) (p : SetPlace) (w : ℕ) → Fate (run start None n).state → FreeAt keep halves M (run start None n).state p → (k : ℕ) → n + k ≤ N → Level (run start None (n + k)) (joined (run start None n) (run (replaced (Set p w) (run start None n).state) None k))
  stages N start g n p w t f zero h = rw (add-zero n) (first_stage (run start None n) (joined (run start None n) (run (replaced (Set p w) (run start None n).state) None zero)) p w t f refl (append-nil (run start None n).output))
  stages N start g n p w t f (suc k) h =
      let A : Ran = run start None n in
      let a : Ran = run start None (n + k) in
      let B : Ran = run (replaced (Set p w) A.state) None k in
      rw (add-suc n k) (subst (λ (x : Ran). Level (after_turn a (step a.state)) x) (one_more A B (step B.state))
      (next_stage a (joined A B) (here_of N start g (n + k) (suc_of n k N h) (less n k N h)) (stages N start g n p w t f k (less_more n k N h))))

  -- the fate of the run without a change
  fate_on : (s : State) → Here s → Good s → s.end ≡ None → (o : Option End) → (step s).0.end ≡ o → Fate (step s).0
  fate_on s h g e None x = elim (h.next g e x) as (λ z. Fate (step s).0) [ inl y ↦ good y.0 x | inr y ↦ slot_next y ]
  fate_on s h g e (Some z) x = over_by z x

  next_fate : (s : State) → Here s → Fate s → Fate (step s).0
  next_fate s h (good g e) = fate_on s h g e (step s).0.end refl
  next_fate s h (over_by e x) = over_by e (ended_step s e x).0
  next_fate s h (slot_next d) = break_next s (slot_of s d) (ap (λ (x : State × Option ℕ). x.0) (slot_goes s (slot_of s d)))
  next_fate s h (break_next u k e) = over_by (Reported k.code k.at) (ap (λ (x : State). (step x).0.end) e ∙ slot_reports u k)

  earlier : (n N : ℕ) → suc n ≤ N → n ≤ N
  earlier n N h = omega arith

  below : (n N : ℕ) → suc n ≤ N → n < N
  below n N h = omega arith

  fates : (N : ℕ) (start : State) → Guide N start Good keep halves M → Good start → start.end ≡ None → (n : ℕ) → n ≤ N → Fate (run start None n).state
  fates N start g s e zero h = good s e
  fates N start g s e (suc n) h = next_fate (run start None n).state (here_of N start g n h (below n N h)) (fates N start g s e n (earlier n N h))

  later_or : (n k : ℕ) → (k ≤ n) ⊎ (n < k)
  later_or n k = grind arith

  rest : (n k : ℕ) → n < k → n + suc (k - suc n) ≡ k
  rest n k h = omega arith

  unseen_before : (start : State) (n : ℕ) (p : SetPlace) (w k : ℕ) → k ≤ n → Shown start n p w k
  unseen_before start n p w k h = inl (record {
    output = ap (λ (x : Ran). x.output) (before start (record { step = n; kind = Set p w }) k h);
    end = ap (λ (x : Ran). x.state.end) (before start (record { step = n; kind = Set p w }) k h);
  })

  after_by : (N : ℕ) (start : State) → Guide N start Good keep halves M → Good start → start.end ≡ None → (n : ℕ) (p : SetPlace) (w : ℕ) → FreeAt keep halves M (run start None n).state p → (j : ℕ) → n + suc j ≤ N → n ≤ N → Shown start n p w (n + suc j)
  after_by N start g s e n p w f j h l =
      let A : Ran = run start None n in
      subst (λ (x : Ran). Unseen x (run start None (n + suc j)) ⊎ Told x (run start None (n + suc j))) (sym (replace_splits start n (Set p w) j tt))
      (seen (run start None (n + suc j)) (joined A (run (replaced (Set p w) A.state) None (suc j))) (stages N start g n p w (fates N start g s e n l) f (suc j) h))

  at_most : (n k N : ℕ) → n < k → k ≤ N → n ≤ N
  at_most n k N h l = omega arith

  shown : (N : ℕ) (start : State) → Guide N start Good keep halves M → Good start → start.end ≡ None → (n : ℕ) (p : SetPlace) (w : ℕ) → FreeAt keep halves M (run start None n).state p → (k : ℕ) → k ≤ N → Shown start n p w k
  shown N start g s e n p w f k h = elim (later_or n k) as (λ z. Shown start n p w k) [
    | inl l ↦ unseen_before start n p w k l
    | inr l ↦ subst (λ (x : ℕ). Shown start n p w x) (rest n k l) (after_by N start g s e n p w f (k - suc n) (subst (λ (x : ℕ). x ≤ N) (sym (rest n k l)) h) (at_most n k N l h))
  ]

-- the law
pub two_runs : TwoRuns
two_runs Good keep halves M N start g s e n p w f k h = shown Good keep halves M N start g s e n p w f k h

pub two_runs_kept : TwoRunsKept
two_runs_kept test keep halves places N start g s e n p w f k h = shown (λ s. IsTrue (test s)) (λ a q. IsTrue (keep a q)) (λ a. IsTrue (halves a)) (λ q. IsTrue (places q)) N start g s e n p w f k h
