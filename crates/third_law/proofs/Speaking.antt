-- Traps, outputs and the exit.
use Rattle.std.proofs.Common.{◌≡◌, ◌≢◌, ◌≤◌, ◌<◌, ℕ, suc, ◌+◌, ◌*◌, ◌%◌, ◌^◌, arith, ap, refl, sym, ◌∙◌, subst, List, [], ◌∷◌, length, Bool, true, false, cond, not, inr}
use Rattle.std.specs.Prelude.{Option, Some, None, slice_index, ◌==◌, bit_or, nat_lt}
use Rattle.hard_runs.specs.Stepping.{Leads}
use Rattle.hard_runs.proofs.Following.{leads_on}
use Rattle.mips_isa.specs.declared.instr.Instr.{Instr}
use Rattle.mips_isa.specs.declared.instr.Instr.TheVariants.{Ori, Syscall, Bne, Break}
use Rattle.mips_isa.specs.declared.instr.End.{End}
use Rattle.mips_isa.specs.declared.instr.End.TheVariants.{Exception, Trapped, Exited}
use Rattle.mips_isa.specs.Machine.{State, step, act, perform, reg, moved, written, plus, service, ended, break_end, branch}
use Rattle.mips_text.specs.Text.{IsText}
use Rattle.third_law.specs.declared.roles.Stream.TheVariants.{First}
use Rattle.third_law.specs.declared.roles.Role.{Role}
use Rattle.third_law.specs.declared.roles.Role.TheVariants.{Value}
use Rattle.third_law.specs.Roles as roles
use Rattle.third_law.specs.Roles.{RoleFits, reg_in, nop, vote}
use Rattle.third_law.specs.Emitted.{service_code}
use Rattle.third_law.proofs.Sights.{Sight, Tripled, written_there}
use Rattle.third_law.proofs.Going.{machine, WordAt, Stands, Before, stands_first, stands_rest, step_is, calm_here, moves, Done}
use Rattle.third_law.proofs.Voting.{Good, wrote, write_leads, write_on, tripled_aside, does_vote}
use Rattle.third_law.proofs.Loading.{none_some}
use Rattle.third_law.proofs.Control.{Landed, lands}

-- ---- the last step of some code

-- Some words lead to a state whose step ends the run.
pub record Stops (text : List ℕ) (s : State) (end : End) : Type 0 where
  pub last : State
  pub steps : ℕ
  pub leads : Leads machine (Good text) steps s last
  pub open_ : last.end ≡ None
  pub good : Good text last
  pub ends : (step last).0.end ≡ Some end
  pub silent : (step last).1 ≡ None

-- Some words lead to a state whose step puts out a word, and go on.
pub record Speaks (text : List ℕ) (size k : ℕ) (s : State) (a : Sight) (word : ℕ) : Type 0 where
  pub last : State
  pub steps : ℕ
  pub leads : Leads machine (Good text) steps s last
  pub open_ : last.end ≡ None
  pub good : Good text last
  pub now : State
  pub says : step last ≡ (now, Some word)
  pub before : Before text k 0 now
  pub tripled : Tripled size now a

pub no_exception : (e : End) (o : Option End) → o ≡ Some e → ((code at : ℕ) → e ≢ Exception code at) → (code at : ℕ) → o ≡ Some (Exception code at) → ⊥
no_exception e o p h code at q = h code at (same (sym p ∙ q))
  where
    same : ◌≡◌ {A = Option End} (Some e) (Some (Exception code at)) → e ≡ Exception code at
    same z = cc

-- ---- a trap

pub equal_is : (x y : ℕ) → x ≡ y → (x == y) ≡ true
equal_is x y h = grind arith

turned : (z : Bool) → z ≡ true → not z ≡ false
turned z e = ap (λ (w : Bool). not w) e

falls_by : (npc k : ℕ) → npc ≡ 0x00400000 + 4 * suc k → suc (suc k) ≤ 66060288 → (npc + 4) % 2 ^ 32 ≡ 0x00400000 + 4 * suc (suc k)
falls_by npc k e h = omega arith

trap_not : (code c at : ℕ) → Trapped code ≢ Exception c at
trap_not code c at = λ e. cc

-- A register that is 0 is tested, and the run ends by the trap.
pub stops_test : (text : List ℕ) (size k : ℕ) (r : Role) (code : ℕ) (a : Sight) (s : State) → IsText text → RoleFits r → a.file r ≡ 0 → ((at : ℕ) → break_end at code ≡ Trapped code) →
    Stands text k (roles.test r code) → Before text k 0 s → Tripled size s a → Stops text s (Trapped code)
stops_test text size k r code a s t fits zero_ trap h b d =
    let e : List Instr = Bne (reg_in First r) 0 2 ∷ nop ∷ Break code ∷ [] in
    let v : Done text (Good text) size k (vote r) s a = does_vote text size r a t fits k s (stands_first text k (vote r) e h) b d in
    let n : ℕ = k + 6 in
    let w : Stands text n e = stands_rest text k (vote r) e h in
    let s1 : State = v.now in
    let within : suc (suc n) ≤ 66060288 = room n (length text) t (Rattle.std.proofs.lemmas.Option.slice_get_within text (suc (suc n)) w.1.1.0.0 w.1.1.0.1) in
    let x : ℕ = reg_in First r in
    let l : Landed text (suc (suc n)) s1 = lands text n (suc (suc n)) (plus s1.npc 4) s1 (Bne x 0 2) v.before w.0 w.1.0 tt
    (inr (ap (λ (z : Bool). branch z s1 2) (turned (reg s1 x == reg s1 0) (equal_is (reg s1 x) (reg s1 0) ((v.tripled.sees First).file r fits ∙ (zero_ ∙ sym v.tripled.sound.zero_)))), refl)) (falls_by s1.npc n v.before.npc within) within in
    let s2 : State = l.now in
    let q : step s2 ≡ (record s2 { end = Some (Trapped code) }, None) = step_is text (suc (suc n)) 0 s2 (Break code) l.before w.1.1.0 (calm_here text (suc (suc n)) s2 (Break code) l.before) ∙
    ap (λ (y : End). let z : State × Option ℕ = (record s2 { end = Some y }, None) in z) (trap s2.pc) in
    let ends : (step s2).0.end ≡ Some (Trapped code) = ap (λ (z : State × Option ℕ). z.0.end) q in
    record {
      last = s2;
      steps = v.steps + 2;
      leads = leads_on machine (Good text) v.steps 2 s s1 s2 v.leads l.leads;
      open_ = l.before.open_;
      good = record { same = l.before.same; number = suc (suc n); instr = Break code; word = w.1.1.0; here = l.before.pc; by = tt; calm = no_exception (Trapped code) (step s2).0.end ends (trap_not code) };
      ends = ends;
      silent = ap (λ (z : State × Option ℕ). z.1) q;
    }
  where
    room : (k n : ℕ) → n ≤ 66060288 → suc (suc k) < n → suc (suc k) ≤ 66060288
    room k n h l = omega arith

-- ---- services

pub two_some : ◌≢◌ {A = ℕ} 2 0
two_some = λ e. omega arith

pub low_two : 2 < 4
low_two = omega arith

pub two_there : (l : ℕ) → l ≡ 32 → 2 < l
two_there l e = omega arith

zero_fits : 0 ≤ 5
zero_fits = omega arith

-- what stands before the syscall of a service: the number in register 2, and the word in register 4
record Asks (text : List ℕ) (size k : ℕ) (s : State) (a : Sight) (n : ℕ) : Type 0 where
  now : State
  steps : ℕ
  leads : Leads machine (Good text) steps s now
  before : Before text (k + 7) 0 now
  tripled : Tripled size now a
  number : reg now 2 ≡ n

pub or_nothing : (n v : ℕ) → v ≡ 0 → bit_or v n ≡ bit_or 0 n
or_nothing n v e = ap (λ (x : ℕ). bit_or x n) e

seven_on : (k : ℕ) → suc (k + 6) ≡ k + 7
seven_on k = omega arith

asks : (text : List ℕ) (size k n : ℕ) (a : Sight) (s : State) → IsText text → bit_or 0 n ≡ n → Stands text k (service_code n) → Before text k 0 s → Tripled size s a → Asks text size k s a n
asks text size k n a s t none h b d =
    let e : List Instr = Ori 2 0 n ∷ Syscall ∷ [] in
    let v : Done text (Good text) size k (vote (Value 0)) s a = does_vote text size (Value 0) a t zero_fits k s (stands_first text k (vote (Value 0)) e h) b d in
    let w : Stands text (k + 6) e = stands_rest text k (vote (Value 0)) e h in
    let s1 : State = v.now in
    let x : ℕ = bit_or (reg s1 0) n in
    record {
      now = wrote s1 2 x;
      steps = v.steps + 1;
      leads = leads_on machine (Good text) v.steps 1 s s1 (wrote s1 2 x) v.leads (write_leads text (k + 6) s1 (Ori 2 0 n) 2 x v.before w.0 refl tt);
      before = subst (λ (z : ℕ). Before text z 0 (wrote s1 2 x)) (seven_on k) (write_on text (k + 6) s1 (Ori 2 0 n) 2 x t v.before w.0);
      tripled = tripled_aside size s1 a 2 x two_some low_two v.tripled;
      number = written_there s1.regs 2 x two_some (two_there (length s1.regs) v.tripled.sound.all) ∙ (or_nothing n (reg s1 0) v.tripled.sound.zero_ ∙ none);
    }

the_last : (text : List ℕ) (k n : ℕ) → Stands text k (service_code n) → WordAt text (k + 7) Syscall
the_last text k n h = subst (λ (z : ℕ). WordAt text z Syscall) (seven_on k) (stands_rest text k (vote (Value 0)) (Ori 2 0 n ∷ Syscall ∷ []) h).1.0

-- the three services, by the number
abbrev pub served : State → Bool → Bool → Bool → Bool → State × Option ℕ
served s one five more seventeen =
    cond one (moved s, Some (reg s 4)) (cond five (cond more (record (Rattle.mips_isa.specs.Machine.with_reg (moved s) 2 (slice_index s.feed s.fed)) { fed = s.fed + 1 }, None) (ended Rattle.mips_isa.specs.declared.instr.End.TheVariants.Starved s)) (
    cond seventeen (ended (Exited (reg s 4)) s) (ended (Exception 8 s.pc) s)))

one_of : (s : State) → reg s 2 ≡ 1 → service s ≡ (moved s, Some (reg s 4))
one_of s e = ap (λ (z : Bool). served s z (reg s 2 == 5) (nat_lt s.fed (length s.feed)) (reg s 2 == 17)) (equal_is (reg s 2) 1 e)

exit_of : (s : State) → reg s 2 ≡ 17 → service s ≡ ended (Exited (reg s 4)) s
exit_of s e = by (reg s 2 == 1) (reg s 2 == 5) (reg s 2 == 17) (other (reg s 2) 1 e (λ z. omega arith)) (other (reg s 2) 5 e (λ z. omega arith)) (equal_is (reg s 2) 17 e)
  where
    other : (x y : ℕ) → x ≡ 17 → ◌≢◌ {A = ℕ} 17 y → (x == y) ≡ false
    other x y e h = differ x y (λ z. h (sym e ∙ z))
      where
        differ : (x y : ℕ) → x ≢ y → (x == y) ≡ false
        differ x y h = grind arith

    by : (p q r : Bool) → p ≡ false → q ≡ false → r ≡ true → served s p q (nat_lt s.fed (length s.feed)) r ≡ ended (Exited (reg s 4)) s
    by p q r e f g = rw (e, f, g) refl

eight_on : (k : ℕ) → suc (k + 7) ≡ k + 8
eight_on k = omega arith

-- The word that the streams hold is put out.
pub speaks_out : (text : List ℕ) (size k : ℕ) (a : Sight) (s : State) → IsText text → Stands text k (service_code 1) → Before text k 0 s → Tripled size s a → Speaks text size (k + 8) s a (a.file (Value 0))
speaks_out text size k a s t h b d =
    let x : Asks text size k s a 1 = asks text size k 1 a s t refl h b d in
    let u : State = x.now in
    let w : WordAt text (k + 7) Syscall = the_last text k 1 h in
    let now : State = record (moved u) { regs = u.regs; memory = u.memory; hi = u.hi; lo = u.lo } in
    let q : step u ≡ (now, Some (a.file (Value 0))) = step_is text (k + 7) 0 u Syscall x.before w (calm_here text (k + 7) u Syscall x.before) ∙
    (one_of u x.number ∙ ap (λ (z : ℕ). let y : State × Option ℕ = (moved u, Some z) in y) ((x.tripled.sees First).file (Value 0) zero_fits)) in
    record {
      last = u;
      steps = x.steps;
      leads = x.leads;
      open_ = x.before.open_;
      good = record { same = x.before.same; number = k + 7; instr = Syscall; word = w; here = x.before.pc; by = tt; calm = λ code at z. none_some (Exception code at) (step u).0.end (ap (λ (z : State × Option ℕ). z.0.end) q ∙ x.before.open_) z };
      now = now;
      says = q;
      before = subst (λ (z : ℕ). Before text z 0 now) (eight_on k) (moves text (k + 7) 0 u Syscall t w x.before u.regs u.memory u.hi u.lo);
      tripled = record { sound = x.tripled.sound; sees = x.tripled.sees; feed = x.tripled.feed; fed = x.tripled.fed; words = x.tripled.words };
    }

exit_not : (word c at : ℕ) → Exited word ≢ Exception c at
exit_not word c at = λ e. cc

-- The run ends with the word that the streams hold.
pub stops_exit : (text : List ℕ) (size k : ℕ) (a : Sight) (s : State) → IsText text → Stands text k (service_code 17) → Before text k 0 s → Tripled size s a → Stops text s (Exited (a.file (Value 0)))
stops_exit text size k a s t h b d =
    let x : Asks text size k s a 17 = asks text size k 17 a s t refl h b d in
    let u : State = x.now in
    let w : WordAt text (k + 7) Syscall = the_last text k 17 h in
    let q : step u ≡ ended (Exited (a.file (Value 0))) u = step_is text (k + 7) 0 u Syscall x.before w (calm_here text (k + 7) u Syscall x.before) ∙
    (exit_of u x.number ∙ ap (λ (z : ℕ). ended (Exited z) u) ((x.tripled.sees First).file (Value 0) zero_fits)) in
    let ends : (step u).0.end ≡ Some (Exited (a.file (Value 0))) = ap (λ (z : State × Option ℕ). z.0.end) q in
    record {
      last = u;
      steps = x.steps;
      leads = x.leads;
      open_ = x.before.open_;
      good = record { same = x.before.same; number = k + 7; instr = Syscall; word = w; here = x.before.pc; by = tt; calm = no_exception (Exited (a.file (Value 0))) (step u).0.end ends (exit_not (a.file (Value 0))) };
      ends = ends;
      silent = ap (λ (z : State × Option ℕ). z.1) q;
    }
