-- What a state does next, by the word at its pc; and the word behind a branch that skips a break.
use Rattle.std.proofs.Common.{◌≡◌, ℕ, ap, refl, sym, ◌∙◌, subst, List, false, true, Bool, cond, rules}
use Rattle.std.specs.Prelude.{Option, Some, None, ◌==◌, ◌&&◌, ◌%◌, nat_le, nat_lt, not, slice_index, length}
use Rattle.mips_isa.specs.declared.instr.Instr.{Instr}
use Rattle.mips_isa.specs.declared.instr.Instr.TheVariants.{Break}
use Rattle.mips_isa.specs.declared.instr.Act.{Act}
use Rattle.mips_isa.specs.declared.instr.Act.TheVariants.{Write, Stop}
use Rattle.mips_isa.specs.declared.instr.End.{End}
use Rattle.mips_isa.specs.declared.instr.End.TheVariants.{Exception, Hazard, Reported}
use Rattle.mips_isa.specs.Table.{decoded}
use Rattle.mips_isa.specs.Machine.{State, act, perform, step, planned, row_act, is_hazard, is_product, is_jump, text_place, moved, with_reg}
use Rattle.mips_faults.specs.Beside.{with_parts}
use Rattle.mips_text.specs.Text.{At, instr_at}
use Rattle.lint_lockstep.specs.Sorts.{Behind, Doomed}

-- what a state and one beside it are about to do: the instruction of one word, or to stop alike
pub data Plans (s t : State) : Type 0 where
  does : (i : Instr) → At s.text s.pc i → is_hazard s i ≡ false → planned s ≡ act i s → planned t ≡ act i t → Plans s t
  stops : (e : End) → planned s ≡ Stop e → planned t ≡ Stop e → Plans s t

-- with the two tests of the place and the word written out
pub data PlansBy (s t : State) (o : Option Instr) (a b : Act) : Type 0 where
  does_by : (i : Instr) → o ≡ Some i → is_hazard s i ≡ false → a ≡ act i s → b ≡ act i t → PlansBy s t o a b
  stops_by : (e : End) → a ≡ Stop e → b ≡ Stop e → PlansBy s t o a b

some_plans : (i : Instr) (s : State) (l : List ℕ) (h g : ℕ) (mem : List ℕ) (z : Bool) → is_hazard s i ≡ z → PlansBy s (with_parts s l h g mem) (Some i) (cond z (Stop (Hazard s.pc)) (act i s)) (cond z (Stop (Hazard s.pc)) (act i (with_parts s l h g mem)))
some_plans i s l h g mem true e = stops_by (Hazard s.pc) refl refl
some_plans i s l h g mem false e = does_by i refl e refl refl

row_plans : (o : Option Instr) (s : State) (l : List ℕ) (h g : ℕ) (mem : List ℕ) → PlansBy s (with_parts s l h g mem) o (row_act s o) (row_act (with_parts s l h g mem) o)
row_plans None s l h g mem = stops_by (Exception 10 s.pc) refl refl
row_plans (Some i) s l h g mem = some_plans i s l h g mem (is_hazard s i) refl

abbrev by_tests : Bool → Bool → State → Option Instr → Act
by_tests x y s o = cond (not x) (Stop (Exception 4 s.pc)) (cond (not y) (Stop (Exception 6 s.pc)) (row_act s o))

abbrev at_tests : Bool → Bool → Option Instr → Option Instr
at_tests x y o = cond (x && y) o None

test_plans : (x y : Bool) (o : Option Instr) (s : State) (l : List ℕ) (h g : ℕ) (mem : List ℕ) → PlansBy s (with_parts s l h g mem) (at_tests x y o) (by_tests x y s o) (by_tests x y (with_parts s l h g mem) o)
test_plans false y o s l h g mem = stops_by (Exception 4 s.pc) refl refl
test_plans true false o s l h g mem = stops_by (Exception 6 s.pc) refl refl
test_plans true true o s l h g mem = row_plans o s l h g mem

whole_plans : (s t : State) → PlansBy s t (instr_at s.text s.pc) (planned s) (planned t) → Plans s t
whole_plans s t (does_by i o z a b) = does i o z a b
whole_plans s t (stops_by e a b) = stops e a b

pub plans : (s : State) (l : List ℕ) (h g : ℕ) (mem : List ℕ) → Plans s (with_parts s l h g mem)
plans s l h g mem = whole_plans s (with_parts s l h g mem) (test_plans (s.pc % 4 == 0) (nat_le 0x00400000 s.pc && nat_lt (text_place s.pc) (length s.text)) (decoded (slice_index s.text (text_place s.pc))) s l h g mem)

some_same : (i j : Instr) → Some i ≡ Some j → i ≡ j
some_same i j h = search (rules, h)

pub same_instr : (text : List ℕ) (a : ℕ) (i j : Instr) → At text a i → At text a j → i ≡ j
same_instr text a i j h k = some_same i j (sym h ∙ k)

none_some : (i : Instr) → None ≡ Some i → ⊥
none_some i h = search (rules, h)

-- an instruction with no hazard is what the state does
row_does : (s : State) (i : Instr) (o : Option Instr) → o ≡ Some i → is_hazard s i ≡ false → row_act s o ≡ act i s
row_does s i o e h = rw (e, h) refl

test_does : (x y : Bool) (s : State) (i : Instr) (o : Option Instr) → at_tests x y o ≡ Some i → is_hazard s i ≡ false → by_tests x y s o ≡ act i s
test_does false y s i o e h = absurd (none_some i e)
test_does true false s i o e h = absurd (none_some i e)
test_does true true s i o e h = row_does s i o e h

pub plan_at : (s : State) (i : Instr) → At s.text s.pc i → is_hazard s i ≡ false → planned s ≡ act i s
plan_at s i e h = test_does (s.pc % 4 == 0) (nat_le 0x00400000 s.pc && nat_lt (text_place s.pc) (length s.text)) s i (decoded (slice_index s.text (text_place s.pc))) e h

free : (u : State) (i : Instr) → u.last_load ≡ 0 → is_product i ≡ false → is_jump i ≡ false → is_hazard u i ≡ false
free u i e p j = rw (e, p, j) refl

-- the state is about to do a plain word, and then to report
pub record Slot (u : State) : Type 0 where
  pub going : u.end ≡ None
  pub d : ℕ
  pub v : ℕ
  pub code : ℕ
  pub at : ℕ
  pub now : planned u ≡ Write d v
  pub next : planned (with_reg (moved u) d v) ≡ Stop (Reported code at)

pub slot_of : (u : State) → Doomed u → Slot u
slot_of u f =
    let b : Behind u.text u.pc u.npc = f.behind in
    let p : (d : ℕ) × ((v : ℕ) × (act b.i u ≡ Write d v)) = b.is_plain.plain u in
    record {
      going = f.going;
      d = p.0;
      v = p.1.0;
      code = b.code;
      at = u.npc;
      now = plan_at u b.i b.slot (free u b.i f.unloaded b.is_plain.no_product b.is_plain.no_jump) ∙ p.1.1;
      next = plan_at (with_reg (moved u) p.0 p.1.0) (Break b.code) b.stop (free (with_reg (moved u) p.0 p.1.0) (Break b.code) refl refl refl) ∙ ap (λ (e : End). Stop e) (b.reports u.npc);
    }

pub going_step : (u : State) → u.end ≡ None → step u ≡ perform (planned u) u
going_step u e = rw e refl

-- the first of the two steps, and the second
pub slot_goes : (u : State) (k : Slot u) → step u ≡ (with_reg (moved u) k.d k.v, None)
slot_goes u k = going_step u k.going ∙ ap (λ (a : Act). perform a u) k.now

pub slot_reports : (u : State) (k : Slot u) → (step (with_reg (moved u) k.d k.v)).0.end ≡ Some (Reported k.code k.at)
slot_reports u k = ap (λ (x : State × Option ℕ). x.0.end) (going_step (with_reg (moved u) k.d k.v) k.going ∙ ap (λ (a : Act). perform a (with_reg (moved u) k.d k.v)) k.next)

pub slot_silent : (u : State) (k : Slot u) → (step (with_reg (moved u) k.d k.v)).1 ≡ None
slot_silent u k = ap (λ (x : State × Option ℕ). x.1) (going_step (with_reg (moved u) k.d k.v) k.going ∙ ap (λ (a : Act). perform a (with_reg (moved u) k.d k.v)) k.next)

-- the state is about to do a plain word
pub record Quiet (u : State) : Type 0 where
  pub going : u.end ≡ None
  pub d : ℕ
  pub v : ℕ
  pub now : planned u ≡ Write d v

pub quiet_goes : (u : State) (k : Quiet u) → step u ≡ (with_reg (moved u) k.d k.v, None)
quiet_goes u k = going_step u k.going ∙ ap (λ (a : Act). perform a u) k.now

-- as the first of the two words, whatever comes behind it
pub quiet_of : (u : State) (a b : ℕ) → u.end ≡ None → u.last_load ≡ 0 → u.pc ≡ a → Behind u.text a b → Quiet u
quiet_of u a b' e z at b =
    let p : (d : ℕ) × ((v : ℕ) × (act b.i u ≡ Write d v)) = b.is_plain.plain u in
    record { going = e; d = p.0; v = p.1.0; now = plan_at u b.i (subst (λ (x : ℕ). At u.text x b.i) (sym at) b.slot) (free u b.i z b.is_plain.no_product b.is_plain.no_jump) ∙ p.1.1 }
