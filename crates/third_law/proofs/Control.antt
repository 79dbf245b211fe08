-- Jumps, and traps that are skipped.
use Rattle.std.proofs.Common.{◌≡◌, ◌≢◌, ◌≤◌, ◌<◌, ℕ, zero, suc, ◌+◌, ◌-◌, ◌*◌, ◌/◌, ◌%◌, ◌^◌, arith, ap, refl, sym, ◌∙◌, subst, List, [], ◌∷◌, ◌++◌, length, get_or, Bool, true, false, cond, not, inl, inr}
use Rattle.std.specs.Prelude.{Option, None, ◌==◌, ◌&&◌, ◌||◌, ◌⊎◌, nat_lt}
use Rattle.hard_words.specs.Words.{extended}
use Rattle.hard_runs.specs.Stepping.{Leads}
use Rattle.hard_runs.proofs.Following.{leads_on}
use Rattle.mips_isa.specs.declared.instr.Instr.{Instr}
use Rattle.mips_isa.specs.declared.instr.Instr.TheVariants.{J, Beq, Bne, Break}
use Rattle.mips_isa.specs.declared.instr.Act.{Act}
use Rattle.mips_isa.specs.declared.instr.Act.TheVariants.{Go, Pass}
use Rattle.mips_isa.specs.declared.instr.End.TheVariants.{Exception}
use Rattle.mips_isa.specs.Machine.{State, step, act, perform, reg, moved, plus, is_hazard, jump_target, branch_target, branch}
use Rattle.mips_text.specs.Text.{IsText}
use Rattle.third_law.specs.declared.roles.Stream.TheVariants.{First}
use Rattle.third_law.specs.declared.roles.Role.{Role}
use Rattle.third_law.specs.Roles as roles
use Rattle.third_law.specs.Roles.{RoleFits, reg_in, nop, vote}
use Rattle.third_law.specs.Emitted.{jump_code}
use Rattle.third_law.proofs.Sights.{Sight, Tripled}
use Rattle.third_law.proofs.Going.{machine, WordAt, Stands, address, Before, step_at, step_is, calm_here, Does, does_then}
use Rattle.third_law.proofs.Voting.{GoodBy, Good, wrote, does_vote}
use Rattle.third_law.proofs.Loading.{one_step, none_some}

-- A state in the delay slot of a jump that goes to an address.
abbrev pub gone : State → ℕ → State
gone s to = record (moved s) { npc = to; slot = true }

pub slot_calm : (s : State) → s.last_load ≡ 0 → is_hazard s nop ≡ false
slot_calm s e = by s.last_load (nat_lt 0 s.quiet) s.slot e
  where
    by : (l : ℕ) (q t : Bool) → l ≡ 0 → ((not (l == 0) && ((l == 0) || false)) || ((false && q) || (false && t))) ≡ false
    by l q t e = rw e refl

-- A state in a delay slot, whose jump goes to the word of a number.
pub record InSlot (text : List ℕ) (k m : ℕ) (s : State) : Type 0 where
  pub same : s.text ≡ text
  pub pc : s.pc ≡ address k
  pub npc : s.npc ≡ address m
  pub last : s.last_load ≡ 0
  pub quiet : s.quiet ≡ 0
  pub open_ : s.end ≡ None

-- What the nop in the slot leads to.
pub record Passed (text : List ℕ) (m : ℕ) (s : State) : Type 0 where
  pub now : State
  pub leads : Leads machine (Good text) 1 s now
  pub before : Before text m 0 now
  pub keeps : (size : ℕ) (a : Sight) → Tripled size s a → Tripled size now a

next_of : (m : ℕ) → m ≤ 66060288 → (0x00400000 + 4 * m + 4) % 2 ^ 32 ≡ 0x00400000 + 4 * suc m
next_of m h = omega arith

pub passes : (text : List ℕ) (k m : ℕ) (s : State) → InSlot text k m s → WordAt text k nop → m ≤ 66060288 → Passed text m s
passes text k m s b w fit =
    let v : ℕ = (reg s 0 * 2 ^ 0) % 2 ^ 32 in
    let p : step s ≡ (wrote s 0 v, None) = step_at text k s nop b.same b.pc b.open_ w (slot_calm s b.last) in
    record {
      now = wrote s 0 v;
      leads = (
        record {
          open_ = b.open_;
          good = record {
            same = b.same;
            number = k;
            instr = nop;
            word = w;
            here = b.pc;
            by = tt;
            calm = λ code a h. none_some (Exception code a) (step s).0.end (ap (λ (z : State × Option ℕ). z.0.end) p ∙ b.open_) h;
          };
          silent = ap (λ (z : State × Option ℕ). z.1) p;
        },
        ap (λ (z : State × Option ℕ). z.0) p,
      );
      before = record {
        same = b.same;
        pc = b.npc;
        npc = ap (λ (n : ℕ). plus n 4) b.npc ∙ next_of m fit;
        last = refl;
        quiet = ap (λ (n : ℕ). n - 1) b.quiet;
        slot = refl;
        open_ = b.open_;
      };
      keeps = λ size a d. record { sound = d.sound; sees = d.sees; feed = d.feed; fed = d.fed; words = d.words };
    }

-- What a jump and the nop behind it lead to: the word of another number, with registers and memory as they were.
pub record Landed (text : List ℕ) (m : ℕ) (s : State) : Type 0 where
  pub now : State
  pub leads : Leads machine (Good text) 2 s now
  pub before : Before text m 0 now
  pub keeps : (size : ℕ) (a : Sight) → Tripled size s a → Tripled size now a

went : (s : State) (a : Act) (to : ℕ) → (a ≡ Go to) ⊎ ((a ≡ Pass) × (to ≡ plus s.npc 4)) → perform a s ≡ (gone s to, None)
went s a to (inl e) = ap (λ (x : Act). perform x s) e
went s a to (inr e) = ap (λ (x : Act). perform x s) e.0 ∙ ap (λ (n : ℕ). let y : State × Option ℕ = (gone s n, None) in y) (sym e.1)

pub lands : (text : List ℕ) (k m to : ℕ) (s : State) (i : Instr) → Before text k 0 s → WordAt text k i → WordAt text (suc k) nop → GoodBy s i → (act i s ≡ Go to) ⊎ ((act i s ≡ Pass) × (to ≡ plus s.npc 4)) → to ≡ address m → m ≤ 66060288 → Landed text m s
lands text k m to s i b w wn g e at fit =
    let q : step s ≡ (gone s to, None) = step_is text k 0 s i b w (calm_here text k s i b) ∙ went s (act i s) to e in
    let s1 : State = gone s to in
    let y : Passed text m s1 = passes text (suc k) m s1 (record { same = b.same; pc = b.npc; npc = at; last = refl; quiet = ap (λ (n : ℕ). n - 1) b.quiet; open_ = b.open_ }) wn fit in
    record {
      now = y.now;
      leads = leads_on machine (Good text) 1 1 s s1 y.now (one_step text k 0 s s1 i b w g q b.open_) y.leads;
      before = y.before;
      keeps = λ size a d. y.keeps size a (record { sound = d.sound; sees = d.sees; feed = d.feed; fed = d.fed; words = d.words });
    }

-- ---- a jump to the word of a number

pub aim : (pc k m : ℕ) → pc ≡ 0x00400000 + 4 * k → suc k < 66060288 → m < 66060288 → (pc + 4) % 2 ^ 32 / 2 ^ 28 * 2 ^ 28 + (0x00400000 + 4 * m) / 4 * 4 ≡ 0x00400000 + 4 * m
aim pc k m e h l = by pc m (low pc k e h) l
  where
    low : (pc k : ℕ) → pc ≡ 0x00400000 + 4 * k → suc k < 66060288 → pc + 4 < 0x10000000
    low pc k e h = omega arith

    by : (pc m : ℕ) → pc + 4 < 0x10000000 → m < 66060288 → (pc + 4) % 2 ^ 32 / 2 ^ 28 * 2 ^ 28 + (0x00400000 + 4 * m) / 4 * 4 ≡ 0x00400000 + 4 * m
    by pc m h l = omega arith

pub jumps : (text : List ℕ) (k m : ℕ) (s : State) → Before text k 0 s → Stands text k (jump_code (address m)) → suc k < 66060288 → m < 66060288 → Landed text m s
jumps text k m s b w h l = lands text k m (jump_target s (address m / 4)) s (J (address m / 4)) b w.0 w.1.0 tt (inl refl) (aim s.pc k m b.pc h l) (le m l)
  where
    le : (m : ℕ) → m < 66060288 → m ≤ 66060288
    le m h = omega arith

-- ---- a trap that is skipped

over : (pc k : ℕ) → pc ≡ 0x00400000 + 4 * k → k + 3 ≤ 66060288 → ((pc + 4) % 2 ^ 32 + 8) % 2 ^ 32 ≡ 0x00400000 + 4 * (k + 3)
over pc k e h = omega arith

pub two_extended : (extended 2 * 4) % 2 ^ 32 ≡ 8
two_extended = refl

pub differ_is : (x y : ℕ) → x ≢ y → not (x == y) ≡ true
differ_is x y h = by (x == y) (grind arith)
  where
    by : (z : Bool) → z ≡ false → not z ≡ true
    by z e = ap (λ (w : Bool). not w) e

-- A register that isn't 0 is tested, and the trap is skipped.
pub does_skip : (text : List ℕ) (size : ℕ) (r : Role) (code : ℕ) (a : Sight) → IsText text → length text ≤ 66060288 → RoleFits r → a.file r ≢ 0 → Does text (Good text) size (Bne (reg_in First r) 0 2 ∷ nop ∷ Break code ∷ []) a a
does_skip text size r code a t short fits some k s h b d =
    let x : ℕ = reg_in First r in
    let here : reg s x ≢ reg s 0 = λ e. some (sym ((d.sees First).file r fits) ∙ (e ∙ d.sound.zero_)) in
    let taken : act (Bne x 0 2) s ≡ Go (branch_target s 2) = ap (λ (z : Bool). branch z s 2) (differ_is (reg s x) (reg s 0) here) in
    let within : k + 3 ≤ 66060288 = room k (length text) short (Rattle.std.proofs.lemmas.Option.slice_get_within text (suc (suc k)) h.1.1.0.0 h.1.1.0.1) in
    let l : Landed text (k + 3) s = lands text k (k + 3) (branch_target s 2) s (Bne x 0 2) b h.0 h.1.0 tt (inl taken) (ap (λ (z : ℕ). plus (plus s.pc 4) z) two_extended ∙ over s.pc k b.pc within) within in
    record {
      now = l.now;
      steps = 2;
      some = λ z. absurd (Rattle.std.proofs.Common.suc-ne-zero 1 z);
      leads = l.leads;
      before = l.before;
      tripled = l.keeps size a d;
    }
  where
    room : (k n : ℕ) → n ≤ 66060288 → suc (suc k) < n → k + 3 ≤ 66060288
    room k n h l = omega arith

-- With the vote before it.
pub does_test : (text : List ℕ) (size : ℕ) (r : Role) (code : ℕ) (a : Sight) → IsText text → RoleFits r → a.file r ≢ 0 → Does text (Good text) size (roles.test r code) a a
does_test text size r code a t fits some = does_then text (Good text) size (vote r) (Bne (reg_in First r) 0 2 ∷ nop ∷ Break code ∷ []) a a a (does_vote text size r a t fits) (does_skip text size r code a t t fits some)

-- ---- a branch over a jump

-- Some words lead to the word of a number.
pub record Arrives (text : List ℕ) (size m : ℕ) (s : State) (a : Sight) : Type 0 where
  pub now : State
  pub steps : ℕ
  pub leads : Leads machine (Good text) (suc steps) s now
  pub before : Before text m 0 now
  pub tripled : Tripled size now a

equal_is : (x y : ℕ) → x ≡ y → (x == y) ≡ true
equal_is x y h = grind arith

unequal_is : (x y : ℕ) → x ≢ y → (x == y) ≡ false
unequal_is x y h = grind arith

turned : (z : Bool) → z ≡ true → not z ≡ false
turned z e = ap (λ (w : Bool). not w) e

three_extended : (extended 3 * 4) % 2 ^ 32 ≡ 12
three_extended = refl

over_jump : (pc k : ℕ) → pc ≡ 0x00400000 + 4 * k → k + 4 ≤ 66060288 → ((pc + 4) % 2 ^ 32 + 12) % 2 ^ 32 ≡ 0x00400000 + 4 * (k + 4)
over_jump pc k e h = omega arith

falls_by : (npc k : ℕ) → npc ≡ 0x00400000 + 4 * suc k → k + 2 ≤ 66060288 → (npc + 4) % 2 ^ 32 ≡ 0x00400000 + 4 * (k + 2)
falls_by npc k e h = omega arith

two_on : (k : ℕ) → suc (suc k) ≡ k + 2
two_on k = omega arith

-- It is taken, over the jump.
branch_over : (text : List ℕ) (size k : ℕ) (s : State) (i : Instr) (a : Sight) → act i s ≡ Go (branch_target s 3) → GoodBy s i → k + 4 ≤ 66060288 → WordAt text k i → WordAt text (suc k) nop → Before text k 0 s → Tripled size s a → Arrives text size (k + 4) s a
branch_over text size k s i a e g within w wn b d =
    let l : Landed text (k + 4) s = lands text k (k + 4) (branch_target s 3) s i b w wn g (inl e) (ap (λ (z : ℕ). plus (plus s.pc 4) z) three_extended ∙ over_jump s.pc k b.pc within) within in
    record { now = l.now; steps = 1; leads = l.leads; before = l.before; tripled = l.keeps size a d }

-- It is not taken, and the jump goes on.
branch_on : (text : List ℕ) (size k m : ℕ) (s : State) (i : Instr) (a : Sight) → act i s ≡ Pass → GoodBy s i → k + 4 ≤ 66060288 → m < 66060288 → WordAt text k i → Stands text (suc k) (nop ∷ jump_code (address m)) → Before text k 0 s → Tripled size s a → Arrives text size m s a
branch_on text size k m s i a e g within low w ws b d =
    let l : Landed text (k + 2) s = lands text k (k + 2) (plus s.npc 4) s i b w ws.0 g (inr (e, refl)) (falls_by s.npc k b.npc (two k within)) (two k within) in
    let j : Landed text m l.now = jumps text (k + 2) m l.now l.before (subst (λ (n : ℕ). Stands text n (jump_code (address m))) (two_on k) ws.1) (three k within) low in
    record { now = j.now; steps = 3; leads = leads_on machine (Good text) 2 2 s l.now j.now l.leads j.leads; before = j.before; tripled = j.keeps size a (l.keeps size a d) }
  where
    two : (k : ℕ) → k + 4 ≤ 66060288 → k + 2 ≤ 66060288
    two k h = omega arith

    three : (k : ℕ) → k + 4 ≤ 66060288 → suc (k + 2) < 66060288
    three k h = omega arith

-- The branch itself: whether it jumps, by the word of the role.
abbrev pub jumps_on : Bool → ℕ → Type 0
jumps_on true w = w ≢ 0
jumps_on false w = w ≡ 0

abbrev pub stays_on : Bool → ℕ → Type 0
stays_on true w = w ≡ 0
stays_on false w = w ≢ 0

abbrev pub behind_vote : Bool → Role → ℕ → List Instr
behind_vote true r to = Beq (reg_in First r) 0 3 ∷ nop ∷ jump_code to
behind_vote false r to = Bne (reg_in First r) 0 3 ∷ nop ∷ jump_code to

pub branch_jumps : (text : List ℕ) (size k m : ℕ) (when : Bool) (r : Role) (s : State) (a : Sight) → RoleFits r → jumps_on when (a.file r) → k + 4 ≤ 66060288 → m < 66060288 → Stands text k (behind_vote when r (address m)) → Before text k 0 s → Tripled size s a → Arrives text size m s a
branch_jumps text size k m true r s a fits j within low w b d =
    branch_on text size k m s (Beq (reg_in First r) 0 3) a (ap (λ (z : Bool). branch z s 3) (unequal_is (reg s (reg_in First r)) (reg s 0) (λ e. j (sym ((d.sees First).file r fits) ∙ (e ∙ d.sound.zero_))))) tt within low w.0 w.1 b d
branch_jumps text size k m false r s a fits j within low w b d =
    branch_on text size k m s (Bne (reg_in First r) 0 3) a (ap (λ (z : Bool). branch z s 3) (turned (reg s (reg_in First r) == reg s 0) (equal_is (reg s (reg_in First r)) (reg s 0) ((d.sees First).file r fits ∙ (j ∙ sym d.sound.zero_))))) tt within low w.0 w.1 b d

pub branch_stays : (text : List ℕ) (size k m : ℕ) (when : Bool) (r : Role) (s : State) (a : Sight) → RoleFits r → stays_on when (a.file r) → k + 4 ≤ 66060288 → Stands text k (behind_vote when r (address m)) → Before text k 0 s → Tripled size s a → Arrives text size (k + 4) s a
branch_stays text size k m true r s a fits j within w b d =
    branch_over text size k s (Beq (reg_in First r) 0 3) a (ap (λ (z : Bool). branch z s 3) (equal_is (reg s (reg_in First r)) (reg s 0) ((d.sees First).file r fits ∙ (j ∙ sym d.sound.zero_)))) tt within w.0 w.1.0 b d
branch_stays text size k m false r s a fits j within w b d =
    branch_over text size k s (Bne (reg_in First r) 0 3) a (ap (λ (z : Bool). branch z s 3) (differ_is (reg s (reg_in First r)) (reg s 0) (λ e. j (sym ((d.sees First).file r fits) ∙ (e ∙ d.sound.zero_))))) tt within w.0 w.1.0 b d
