-- A word of the input comes to all streams.
use Rattle.std.proofs.Common.{◌≡◌, ◌≢◌, ◌≤◌, ◌<◌, ℕ, zero, suc, ◌+◌, ◌-◌, ◌*◌, ◌/◌, ◌%◌, ◌^◌, arith, ap, refl, sym, ◌∙◌, subst, List, [], ◌∷◌, length, get_or, Bool, true, false, cond}
use Rattle.std.specs.Prelude.{None, slice_index, ◌==◌, bit_or, nat_lt}
use Rattle.hard_runs.proofs.Following.{leads_on}
use Rattle.mips_isa.specs.declared.instr.Instr.TheVariants.{Ori, Syscall, Addu}
use Rattle.mips_isa.specs.Machine.{State, reg, moved, written, service}
use Rattle.mips_text.specs.Text.{IsText}
use Rattle.third_law.specs.declared.roles.Stream.{Stream}
use Rattle.third_law.specs.declared.roles.Stream.TheVariants.{First, Second, Third}
use Rattle.third_law.specs.declared.roles.Role.{Role}
use Rattle.third_law.specs.Roles.{RoleFits, reg_in}
use Rattle.third_law.specs.Emitted.{input_code}
use Rattle.third_law.proofs.Sights.{Sight, Sees, Sound, Tripled, put, reg_high, reg_not_zero, sees_write, sees_beside, sees_aside, sound_write, words_put, written_there, written_beside}
use Rattle.third_law.proofs.Going.{machine, Before, step_is, calm_here, moves, Does}
use Rattle.third_law.proofs.Voting.{Good, wrote, write_leads, write_on, tripled_aside}
use Rattle.third_law.proofs.Loading.{one_step}
use Rattle.third_law.proofs.Speaking.{equal_is, two_some, low_two, two_there, or_nothing, served}

-- the state behind the syscall
abbrev heard : State → State
heard s = record (moved s) { regs = written s.regs 2 (slice_index s.feed s.fed); memory = s.memory; hi = s.hi; lo = s.lo; fed = s.fed + 1 }

input_of : (s : State) → reg s 2 ≡ 5 → nat_lt s.fed (length s.feed) ≡ true → service s ≡ (heard s, None)
input_of s e m = by (reg s 2 == 1) (reg s 2 == 5) (nat_lt s.fed (length s.feed)) (differ (reg s 2) e) (equal_is (reg s 2) 5 e) m
  where
    differ : (x : ℕ) → x ≡ 5 → (x == 1) ≡ false
    differ x e = grind arith

    by : (p q r : Bool) → p ≡ false → q ≡ true → r ≡ true → served s p q r (reg s 2 == 17) ≡ (heard s, None)
    by p q r e f g = rw (e, f, g) refl

-- The sight with one word of the input more.
abbrev pub hears : Sight → Role → Sight
hears a r = put (record a { fed = a.fed + 1 }) r (slice_index a.feed a.fed)

plus_nothing : (v : ℕ) → v < 2 ^ 32 → (v + 0) % 2 ^ 32 ≡ v
plus_nothing v h = omega arith

two_apart : (n : ℕ) → 4 ≤ n → ◌≢◌ {A = ℕ} 2 n
two_apart n h = λ e. omega arith

five_on : (k : ℕ) → suc (suc (suc (suc (suc k)))) ≡ k + 5
five_on k = omega arith

more_is : (m n : ℕ) → m < n → nat_lt m n ≡ true
more_is m n h = grind arith

pub does_input : (text : List ℕ) (size : ℕ) (r : Role) (a : Sight) → IsText text → RoleFits r → a.fed < length a.feed → slice_index a.feed a.fed < 2 ^ 32 → Does text (Good text) size (input_code r) a (hears a r)
does_input text size r a t fits more small k s h b d =
    let v : ℕ = slice_index a.feed a.fed in
    let n : ℕ = bit_or (reg s 0) 5 in
    let s1 : State = wrote s 2 n in
    let b1 : Before text (suc k) 0 s1 = write_on text k s (Ori 2 0 5) 2 n t b h.0 in
    let d1 : Tripled size s1 a = tripled_aside size s a 2 n two_some low_two d in
    let five : reg s1 2 ≡ 5 = written_there s.regs 2 n two_some (two_there (length s.regs) d.sound.all) ∙ or_nothing 5 (reg s 0) d.sound.zero_ in
    let word : slice_index s1.feed s1.fed ≡ v = ap (λ (l : List ℕ). slice_index l s1.fed) d1.feed ∙ ap (λ (m : ℕ). slice_index a.feed m) d1.fed in
    let there : nat_lt s1.fed (length s1.feed) ≡ true = ap (λ (l : List ℕ). nat_lt s1.fed (length l)) d1.feed ∙ (ap (λ (m : ℕ). nat_lt m (length a.feed)) d1.fed ∙ more_is a.fed (length a.feed) more) in
    let s2 : State = heard s1 in
    let x2 : ℕ = slice_index s1.feed s1.fed in
    let m2 : Before text (suc (suc k)) 0 (record (moved s1) { regs = s2.regs; memory = s1.memory; hi = s1.hi; lo = s1.lo }) = moves text (suc k) 0 s1 Syscall t h.1.0 b1 s2.regs s1.memory s1.hi s1.lo in
    let b2 : Before text (suc (suc k)) 0 s2 = record { same = m2.same; pc = m2.pc; npc = m2.npc; last = refl; quiet = m2.quiet; slot = refl; open_ = m2.open_ } in
    let o2 : Sound size s2.regs s2.memory = sound_write size s1.regs s1.memory 2 x2 two_some d1.sound in
    let e2 : (u : Stream) → Sees size u s2.regs s2.memory a = λ u. sees_aside size u s1.regs s1.memory a 2 x2 two_some low_two (d1.sees u) in
    let has2 : reg s2 2 ≡ v = written_there s1.regs 2 x2 two_some (two_there (length s1.regs) d1.sound.all) ∙ word in
    let y : (u : Stream) → reg_in u r ≢ 0 = λ u. reg_not_zero u r in
    let w3 : ℕ = (reg s2 2 + reg s2 0) % 2 ^ 32 in
    let is3 : w3 ≡ v = ap (λ (z : ℕ). (z + reg s2 0) % 2 ^ 32) has2 ∙ (ap (λ (z : ℕ). (v + z) % 2 ^ 32) o2.zero_ ∙ plus_nothing v small) in
    let s3 : State = wrote s2 (reg_in First r) w3 in
    let b3 : Before text (suc (suc (suc k))) 0 s3 = write_on text (suc (suc k)) s2 (Addu (reg_in First r) 2 0) (reg_in First r) w3 t b2 h.1.1.0 in
    let o3 : Sound size s3.regs s3.memory = sound_write size s2.regs s2.memory (reg_in First r) w3 (y First) o2 in
    let has3 : reg s3 2 ≡ v = written_beside s2.regs (reg_in First r) w3 2 (y First) (two_apart (reg_in First r) (reg_high First r)) ∙ has2 in
    let p3 : Sees size First s3.regs s3.memory (put a r w3) = sees_write size First s2.regs s2.memory a r w3 fits o2 (e2 First) in
    let q3 : Sees size Second s3.regs s3.memory a = sees_beside size Second First s2.regs s2.memory a r w3 fits refl (e2 Second) in
    let r3 : Sees size Third s3.regs s3.memory a = sees_beside size Third First s2.regs s2.memory a r w3 fits refl (e2 Third) in
    let w4 : ℕ = (reg s3 2 + reg s3 0) % 2 ^ 32 in
    let is4 : w4 ≡ v = ap (λ (z : ℕ). (z + reg s3 0) % 2 ^ 32) has3 ∙ (ap (λ (z : ℕ). (v + z) % 2 ^ 32) o3.zero_ ∙ plus_nothing v small) in
    let s4 : State = wrote s3 (reg_in Second r) w4 in
    let b4 : Before text (suc (suc (suc (suc k)))) 0 s4 = write_on text (suc (suc (suc k))) s3 (Addu (reg_in Second r) 2 0) (reg_in Second r) w4 t b3 h.1.1.1.0 in
    let o4 : Sound size s4.regs s4.memory = sound_write size s3.regs s3.memory (reg_in Second r) w4 (y Second) o3 in
    let has4 : reg s4 2 ≡ v = written_beside s3.regs (reg_in Second r) w4 2 (y Second) (two_apart (reg_in Second r) (reg_high Second r)) ∙ has3 in
    let p4 : Sees size First s4.regs s4.memory (put a r w3) = sees_beside size First Second s3.regs s3.memory (put a r w3) r w4 fits refl p3 in
    let q4 : Sees size Second s4.regs s4.memory (put a r w4) = sees_write size Second s3.regs s3.memory a r w4 fits o3 q3 in
    let r4 : Sees size Third s4.regs s4.memory a = sees_beside size Third Second s3.regs s3.memory a r w4 fits refl r3 in
    let w5 : ℕ = (reg s4 2 + reg s4 0) % 2 ^ 32 in
    let is5 : w5 ≡ v = ap (λ (z : ℕ). (z + reg s4 0) % 2 ^ 32) has4 ∙ (ap (λ (z : ℕ). (v + z) % 2 ^ 32) o4.zero_ ∙ plus_nothing v small) in
    let s5 : State = wrote s4 (reg_in Third r) w5 in
    let p5 : Sees size First s5.regs s5.memory (put a r v) = subst (λ (z : ℕ). Sees size First s5.regs s5.memory (put a r z)) is3 (sees_beside size First Third s4.regs s4.memory (put a r w3) r w5 fits refl p4) in
    let q5 : Sees size Second s5.regs s5.memory (put a r v) = subst (λ (z : ℕ). Sees size Second s5.regs s5.memory (put a r z)) is4 (sees_beside size Second Third s4.regs s4.memory (put a r w4) r w5 fits refl q4) in
    let r5 : Sees size Third s5.regs s5.memory (put a r v) = subst (λ (z : ℕ). Sees size Third s5.regs s5.memory (put a r z)) is5 (sees_write size Third s4.regs s4.memory a r w5 fits o4 r4) in
    record {
      now = s5;
      steps = 5;
      some = λ z. absurd (Rattle.std.proofs.Common.suc-ne-zero 4 z);
      leads = leads_on machine (Good text) 1 4 s s1 s5 (write_leads text k s (Ori 2 0 5) 2 n b h.0 refl tt)
          (leads_on machine (Good text) 1 3 s1 s2 s5 (one_step text (suc k) 0 s1 s2 Syscall b1 h.1.0 tt (step_is text (suc k) 0 s1 Syscall b1 h.1.0 (calm_here text (suc k) s1 Syscall b1) ∙ input_of s1 five there) b1.open_)
          (leads_on machine (Good text) 1 2 s2 s3 s5 (write_leads text (suc (suc k)) s2 (Addu (reg_in First r) 2 0) (reg_in First r) w3 b2 h.1.1.0 refl tt)
          (leads_on machine (Good text) 1 1 s3 s4 s5 (write_leads text (suc (suc (suc k))) s3 (Addu (reg_in Second r) 2 0) (reg_in Second r) w4 b3 h.1.1.1.0 refl tt)
          (write_leads text (suc (suc (suc (suc k)))) s4 (Addu (reg_in Third r) 2 0) (reg_in Third r) w5 b4 h.1.1.1.1.0 refl tt))));
      before = subst (λ (z : ℕ). Before text z 0 s5) (five_on k) (write_on text (suc (suc (suc (suc k)))) s4 (Addu (reg_in Third r) 2 0) (reg_in Third r) w5 t b4 h.1.1.1.1.0);
      tripled = record {
        sound = sound_write size s4.regs s4.memory (reg_in Third r) w5 (y Third) o4;
        sees = elim [
          | First ↦ record { file = p5.file; cell = p5.cell }
          | Second ↦ record { file = q5.file; cell = q5.cell }
          | Third ↦ record { file = r5.file; cell = r5.cell }
        ];
        feed = d1.feed;
        fed = ap (λ (m : ℕ). m + 1) d1.fed;
        words = record { file = (words_put a r v small d1.words).file; cell = d1.words.cell };
      };
    }
