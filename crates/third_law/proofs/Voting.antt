-- Words that write one register: one in each stream, and a vote.
use Rattle.std.proofs.Common.{◌≡◌, ◌≢◌, ◌≤◌, ◌<◌, ℕ, zero, suc, ◌+◌, ◌-◌, ◌*◌, ◌/◌, ◌%◌, ◌^◌, arith, ap, refl, sym, ◌∙◌, subst, List, [], ◌∷◌, ◌++◌, length, get_or, Bool, true, false, cond, not, inl, inr}
use Rattle.std.specs.Prelude.{Option, Some, None, bit_and, bit_or}
use lib.Bits.{and_self}
use Rattle.third_law.proofs.Bits.{or_self}
use Rattle.hard_words.specs.Words.{extended}
use Rattle.hard_runs.specs.Stepping.{Leads}
use Rattle.hard_runs.proofs.Following.{leads_on}
use Rattle.mips_isa.specs.declared.instr.Instr.{Instr}
use Rattle.mips_isa.specs.declared.instr.Instr.TheVariants.{Jr, Jal, And, Or, Addu, Lw, Sw}
use Rattle.mips_isa.specs.declared.instr.Act.{Act}
use Rattle.mips_isa.specs.declared.instr.Act.TheVariants.{Write}
use Rattle.mips_isa.specs.declared.instr.End.TheVariants.{Exception}
use Rattle.mips_isa.specs.Machine.{State, step, act, perform, reg, moved, written, plus}
use Rattle.mips_text.specs.Text.{IsText}
use Rattle.third_law.specs.declared.roles.Stream.{Stream}
use Rattle.third_law.specs.declared.roles.Stream.TheVariants.{First, Second, Third}
use Rattle.third_law.specs.declared.roles.Role.{Role}
use Rattle.third_law.specs.Roles.{RoleFits, reg_in, each, vote}
use Rattle.third_law.specs.Law.{of_stream}
use Rattle.third_law.proofs.Sights.{Sight, Sees, Sound, AreWords, Tripled, put, reg_not_zero, sees_write, sees_beside, sees_aside, sees_again, sound_write, words_put, written_there, written_beside}
use Rattle.third_law.proofs.Going.{machine, WordAt, address, Before, step_is, calm_here, moves, Does}

-- ---- good states

-- A load or a store of a register of a stream has an address of that stream.
abbrev pub OfStream : (rt address : ℕ) → Type 0
OfStream rt address = (t : Stream) (r : Role) → RoleFits r → rt ≡ reg_in t r → address % 16 ≡ of_stream t

-- What is asked of a state before an instruction.
abbrev pub GoodBy : State → Instr → Type 0
GoodBy s (Lw rt rs imm) = OfStream rt (plus (reg s rs) (extended imm))
GoodBy s (Sw rt rs imm) = OfStream rt (plus (reg s rs) (extended imm))
GoodBy s (Jr rs) = (n to : ℕ) × WordAt s.text n (Jal to) × (reg s rs ≡ address n + 8)
GoodBy s (And rd rs rt) = rd ≡ 1 → (r : Role) → RoleFits r → rs ≡ reg_in First r → rt ≡ reg_in Second r →
    (reg s (reg_in First r) ≡ reg s (reg_in Second r)) × (reg s (reg_in Second r) ≡ reg s (reg_in Third r))
GoodBy s i = Unit {0}

pub record Good (text : List ℕ) (s : State) : Type 0 where
  pub same : s.text ≡ text
  pub number : ℕ
  pub instr : Instr
  pub word : WordAt text number instr
  pub here : s.pc ≡ address number
  pub by : GoodBy s instr
  pub calm : (code at : ℕ) → (step s).0.end ≡ Some (Exception code at) → ⊥

-- ---- one word that writes

abbrev pub wrote : State → ℕ → ℕ → State
wrote s r v = record (moved s) { regs = written s.regs r v; memory = s.memory; hi = s.hi; lo = s.lo }

none_some : {A : Type 0} (x : A) (o : Option A) → o ≡ None → o ≡ Some x → ⊥
none_some x o e f = cc

pub write_step : (text : List ℕ) (k : ℕ) (s : State) (i : Instr) (r v : ℕ) → Before text k 0 s → WordAt text k i → act i s ≡ Write r v → step s ≡ (wrote s r v, None)
write_step text k s i r v b w e = step_is text k 0 s i b w (calm_here text k s i b) ∙ ap (λ (x : Act). perform x s) e

pub write_leads : (text : List ℕ) (k : ℕ) (s : State) (i : Instr) (r v : ℕ) → Before text k 0 s → WordAt text k i → act i s ≡ Write r v → GoodBy s i → Leads machine (Good text) 1 s (wrote s r v)
write_leads text k s i r v b w e g =
    let q : step s ≡ (wrote s r v, None) = write_step text k s i r v b w e in (
      record {
        open_ = b.open_;
        good = record {
          same = b.same;
          number = k;
          instr = i;
          word = w;
          here = b.pc;
          by = g;
          calm = λ code at h. none_some (Exception code at) (step s).0.end (ap (λ (z : State × Option ℕ). z.0.end) q ∙ b.open_) h;
        };
        silent = ap (λ (z : State × Option ℕ). z.1) q;
      },
      ap (λ (z : State × Option ℕ). z.0) q,
    )

pub write_on : (text : List ℕ) (k : ℕ) (s : State) (i : Instr) (r v : ℕ) → IsText text → Before text k 0 s → WordAt text k i → Before text (suc k) 0 (wrote s r v)
write_on text k s i r v t b w = moves text k 0 s i t w b (written s.regs r v) s.memory s.hi s.lo

-- ---- one instruction in each stream

-- An instruction in each stream makes one word of what the streams agree on.
pub record Computes (size : ℕ) (f : Stream → Instr) (r : Role) (a : Sight) (v : ℕ) : Type 0 where
  pub fits : RoleFits r
  pub word : v < 2 ^ 32
  pub acts : (t : Stream) (s : State) → Sound size s.regs s.memory → Sees size t s.regs s.memory a → act (f t) s ≡ Write (reg_in t r) v
  pub good : (t : Stream) (s : State) → GoodBy s (f t)

three_on : (k : ℕ) → suc (suc (suc k)) ≡ k + 3
three_on k = omega arith

pub does_each : (text : List ℕ) (size : ℕ) (f : Stream → Instr) (r : Role) (a : Sight) (v : ℕ) → IsText text → Computes size f r a v → Does text (Good text) size (each f) a (put a r v)
does_each text size f r a v t c k s h b d =
    let x : (u : Stream) → reg_in u r ≢ 0 = λ u. reg_not_zero u r in
    let s1 : State = wrote s (reg_in First r) v in
    let b1 : Before text (suc k) 0 s1 = write_on text k s (f First) (reg_in First r) v t b h.0 in
    let o1 : Sound size s1.regs s1.memory = sound_write size s.regs s.memory (reg_in First r) v (x First) d.sound in
    let p1 : Sees size First s1.regs s1.memory (put a r v) = sees_write size First s.regs s.memory a r v c.fits d.sound (d.sees First) in
    let q1 : Sees size Second s1.regs s1.memory a = sees_beside size Second First s.regs s.memory a r v c.fits refl (d.sees Second) in
    let r1 : Sees size Third s1.regs s1.memory a = sees_beside size Third First s.regs s.memory a r v c.fits refl (d.sees Third) in
    let s2 : State = wrote s1 (reg_in Second r) v in
    let b2 : Before text (suc (suc k)) 0 s2 = write_on text (suc k) s1 (f Second) (reg_in Second r) v t b1 h.1.0 in
    let o2 : Sound size s2.regs s2.memory = sound_write size s1.regs s1.memory (reg_in Second r) v (x Second) o1 in
    let p2 : Sees size First s2.regs s2.memory (put a r v) = sees_beside size First Second s1.regs s1.memory (put a r v) r v c.fits refl p1 in
    let q2 : Sees size Second s2.regs s2.memory (put a r v) = sees_write size Second s1.regs s1.memory a r v c.fits o1 q1 in
    let r2 : Sees size Third s2.regs s2.memory a = sees_beside size Third Second s1.regs s1.memory a r v c.fits refl r1 in
    let s3 : State = wrote s2 (reg_in Third r) v in
    record {
      now = s3;
      steps = 3;
      some = λ z. absurd (Rattle.std.proofs.Common.suc-ne-zero 2 z);
      leads = leads_on machine (Good text) 1 2 s s1 s3 (write_leads text k s (f First) (reg_in First r) v b h.0 (c.acts First s d.sound (d.sees First)) (c.good First s))
          (leads_on machine (Good text) 1 1 s1 s2 s3 (write_leads text (suc k) s1 (f Second) (reg_in Second r) v b1 h.1.0 (c.acts Second s1 o1 q1) (c.good Second s1))
          (write_leads text (suc (suc k)) s2 (f Third) (reg_in Third r) v b2 h.1.1.0 (c.acts Third s2 o2 r2) (c.good Third s2)));
      before = subst (λ (z : ℕ). Before text z 0 s3) (three_on k) (write_on text (suc (suc k)) s2 (f Third) (reg_in Third r) v t b2 h.1.1.0);
      tripled = record {
        sound = sound_write size s2.regs s2.memory (reg_in Third r) v (x Third) o2;
        sees = elim [
          | First ↦ sees_beside size First Third s2.regs s2.memory (put a r v) r v c.fits refl p2
          | Second ↦ sees_beside size Second Third s2.regs s2.memory (put a r v) r v c.fits refl q2
          | Third ↦ sees_write size Third s2.regs s2.memory a r v c.fits o2 r2
        ];
        feed = d.feed;
        fed = d.fed;
        words = words_put a r v c.word d.words;
      };
    }

-- ---- a vote

pub tripled_aside : (size : ℕ) (s : State) (a : Sight) (x v : ℕ) → x ≢ 0 → x < 4 → Tripled size s a → Tripled size (wrote s x v) a
tripled_aside size s a x v h k d = record {
  sound = sound_write size s.regs s.memory x v h d.sound;
  sees = λ u. sees_aside size u s.regs s.memory a x v h k (d.sees u);
  feed = d.feed;
  fed = d.fed;
  words = d.words;
}

pub tripled_again : (size : ℕ) (t : Stream) (s : State) (a : Sight) (r : Role) (v : ℕ) → RoleFits r → v ≡ a.file r → Tripled size s a → Tripled size (wrote s (reg_in t r) v) a
tripled_again size t s a r v fits e d = record {
  sound = sound_write size s.regs s.memory (reg_in t r) v (reg_not_zero t r) d.sound;
  sees = sees_again size t s.regs s.memory a r v fits e d.sound d.sees;
  feed = d.feed;
  fed = d.fed;
  words = d.words;
}

or_same : (v : ℕ) → bit_or v v ≡ v
or_same v = or_self v

low_one : 1 < 4
low_one = omega arith

low_three : 3 < 4
low_three = omega arith

one_some : ◌≢◌ {A = ℕ} 1 0
one_some = λ e. omega arith

three_some : ◌≢◌ {A = ℕ} 3 0
three_some = λ e. omega arith

one_three : ◌≢◌ {A = ℕ} 1 3
one_three = λ e. omega arith

plus_nothing : (v : ℕ) → v < 2 ^ 32 → (v + 0) % 2 ^ 32 ≡ v
plus_nothing v h = omega arith

below_long : (n l : ℕ) → n < 32 → l ≡ 32 → n < l
below_long n l h e = omega arith

high_not : (x n : ℕ) → x < 4 → 4 ≤ n → x ≢ n
high_not x n h k = λ e. omega arith

six_on : (k : ℕ) → suc (suc (suc (suc (suc (suc k))))) ≡ k + 6
six_on k = omega arith

-- A vote on registers that agree leaves all as it is.
pub does_vote : (text : List ℕ) (size : ℕ) (r : Role) (a : Sight) → IsText text → RoleFits r → Does text (Good text) size (vote r) a a
does_vote text size r a t fits k s h b d =
    let v : ℕ = a.file r in
    let x : ℕ = reg_in First r in
    let y : ℕ = reg_in Second r in
    let z : ℕ = reg_in Third r in
    let v1 : ℕ = bit_and (reg s x) (reg s y) in
    let is1 : v1 ≡ v = ap (λ (n : ℕ). bit_and n (reg s y)) ((d.sees First).file r fits) ∙ (ap (λ (n : ℕ). bit_and v n) ((d.sees Second).file r fits) ∙ and_self v) in
    let s1 : State = wrote s 1 v1 in
    let d1 : Tripled size s1 a = tripled_aside size s a 1 v1 one_some low_one d in
    let b1 : Before text (suc k) 0 s1 = write_on text k s (And 1 x y) 1 v1 t b h.0 in
    let at1 : reg s1 1 ≡ v = written_there s.regs 1 v1 one_some (below_long 1 (length s.regs) (omega arith) d.sound.all) ∙ is1 in
    let v2 : ℕ = bit_or (reg s1 x) (reg s1 y) in
    let is2 : v2 ≡ v = ap (λ (n : ℕ). bit_or n (reg s1 y)) ((d1.sees First).file r fits) ∙ (ap (λ (n : ℕ). bit_or v n) ((d1.sees Second).file r fits) ∙ or_same v) in
    let s2 : State = wrote s1 3 v2 in
    let d2 : Tripled size s2 a = tripled_aside size s1 a 3 v2 three_some low_three d1 in
    let b2 : Before text (suc (suc k)) 0 s2 = write_on text (suc k) s1 (Or 3 x y) 3 v2 t b1 h.1.0 in
    let at2 : reg s2 3 ≡ v = written_there s1.regs 3 v2 three_some (below_long 3 (length s1.regs) (omega arith) d1.sound.all) ∙ is2 in
    let one2 : reg s2 1 ≡ v = written_beside s1.regs 3 v2 1 three_some one_three ∙ at1 in
    let v3 : ℕ = bit_and (reg s2 3) (reg s2 z) in
    let is3 : v3 ≡ v = ap (λ (n : ℕ). bit_and n (reg s2 z)) at2 ∙ (ap (λ (n : ℕ). bit_and v n) ((d2.sees Third).file r fits) ∙ and_self v) in
    let s3 : State = wrote s2 3 v3 in
    let d3 : Tripled size s3 a = tripled_aside size s2 a 3 v3 three_some low_three d2 in
    let b3 : Before text (suc (suc (suc k))) 0 s3 = write_on text (suc (suc k)) s2 (And 3 3 z) 3 v3 t b2 h.1.1.0 in
    let at3 : reg s3 3 ≡ v = written_there s2.regs 3 v3 three_some (below_long 3 (length s2.regs) (omega arith) d2.sound.all) ∙ is3 in
    let one3 : reg s3 1 ≡ v = written_beside s2.regs 3 v3 1 three_some one_three ∙ one2 in
    let v4 : ℕ = bit_or (reg s3 1) (reg s3 3) in
    let is4 : v4 ≡ v = ap (λ (n : ℕ). bit_or n (reg s3 3)) one3 ∙ (ap (λ (n : ℕ). bit_or v n) at3 ∙ or_same v) in
    let s4 : State = wrote s3 x v4 in
    let d4 : Tripled size s4 a = tripled_again size First s3 a r v4 fits is4 d3 in
    let b4 : Before text (suc (suc (suc (suc k)))) 0 s4 = write_on text (suc (suc (suc k))) s3 (Or x 1 3) x v4 t b3 h.1.1.1.0 in
    let v5 : ℕ = (reg s4 x + reg s4 0) % 2 ^ 32 in
    let is5 : v5 ≡ v = ap (λ (n : ℕ). (n + reg s4 0) % 2 ^ 32) ((d4.sees First).file r fits) ∙ (ap (λ (n : ℕ). (v + n) % 2 ^ 32) d4.sound.zero_ ∙ plus_nothing v (a_words d4.words r)) in
    let s5 : State = wrote s4 y v5 in
    let d5 : Tripled size s5 a = tripled_again size Second s4 a r v5 fits is5 d4 in
    let b5 : Before text (suc (suc (suc (suc (suc k))))) 0 s5 = write_on text (suc (suc (suc (suc k)))) s4 (Addu y x 0) y v5 t b4 h.1.1.1.1.0 in
    let v6 : ℕ = (reg s5 x + reg s5 0) % 2 ^ 32 in
    let is6 : v6 ≡ v = ap (λ (n : ℕ). (n + reg s5 0) % 2 ^ 32) ((d5.sees First).file r fits) ∙ (ap (λ (n : ℕ). (v + n) % 2 ^ 32) d5.sound.zero_ ∙ plus_nothing v (a_words d5.words r)) in
    let s6 : State = wrote s5 z v6 in
    record {
      now = s6;
      steps = 6;
      some = λ q. absurd (Rattle.std.proofs.Common.suc-ne-zero 5 q);
      leads = leads_on machine (Good text) 1 5 s s1 s6 (write_leads text k s (And 1 x y) 1 v1 b h.0 refl (λ e q f g l. agrees q f g))
          (leads_on machine (Good text) 1 4 s1 s2 s6 (write_leads text (suc k) s1 (Or 3 x y) 3 v2 b1 h.1.0 refl tt)
          (leads_on machine (Good text) 1 3 s2 s3 s6 (write_leads text (suc (suc k)) s2 (And 3 3 z) 3 v3 b2 h.1.1.0 refl (λ e. absurd (one_three (sym e))))
          (leads_on machine (Good text) 1 2 s3 s4 s6 (write_leads text (suc (suc (suc k))) s3 (Or x 1 3) x v4 b3 h.1.1.1.0 refl tt)
          (leads_on machine (Good text) 1 1 s4 s5 s6 (write_leads text (suc (suc (suc (suc k)))) s4 (Addu y x 0) y v5 b4 h.1.1.1.1.0 refl tt)
          (write_leads text (suc (suc (suc (suc (suc k))))) s5 (Addu z x 0) z v6 b5 h.1.1.1.1.1.0 refl tt)))));
      before = subst (λ (n : ℕ). Before text n 0 s6) (six_on k) (write_on text (suc (suc (suc (suc (suc k))))) s5 (Addu z x 0) z v6 t b5 h.1.1.1.1.1.0);
      tripled = tripled_again size Third s5 a r v6 fits is6 d5;
    }
  where
    a_words : AreWords a → (q : Role) → a.file q < 2 ^ 32
    a_words w q = w.file q

    agrees : (q : Role) → RoleFits q → reg_in First r ≡ reg_in First q → (reg s (reg_in First q) ≡ reg s (reg_in Second q)) × (reg s (reg_in Second q) ≡ reg s (reg_in Third q))
    agrees q f e = ((d.sees First).file q f ∙ sym ((d.sees Second).file q f), (d.sees Second).file q f ∙ sym ((d.sees Third).file q f))
