-- A product with its move, in one stream after the other, and an input.
use Rattle.std.proofs.Common.{◌≡◌, ◌≢◌, ◌≤◌, ◌<◌, ℕ, zero, suc, ◌+◌, ◌-◌, ◌*◌, ◌/◌, ◌%◌, ◌^◌, arith, ap, refl, sym, ◌∙◌, subst, List, [], ◌∷◌, ◌++◌, length, get_or, Bool, true, false, cond, not, inl, inr}
use Rattle.std.specs.Prelude.{Option, None}
use Rattle.hard_runs.specs.Stepping.{Leads}
use Rattle.hard_runs.proofs.Following.{leads_on}
use Rattle.mips_isa.specs.declared.instr.Instr.{Instr}
use Rattle.mips_isa.specs.declared.instr.Act.{Act}
use Rattle.mips_isa.specs.declared.instr.Act.TheVariants.{Both, Move}
use Rattle.mips_isa.specs.declared.instr.End.TheVariants.{Exception}
use Rattle.mips_isa.specs.Machine.{State, step, act, perform, reg, moved, written}
use Rattle.mips_text.specs.Text.{IsText}
use Rattle.third_law.specs.declared.roles.Stream.{Stream}
use Rattle.third_law.specs.declared.roles.Stream.TheVariants.{First, Second, Third}
use Rattle.third_law.specs.declared.roles.Role.{Role}
use Rattle.third_law.specs.Roles.{RoleFits, reg_in, nop, product}
use Rattle.third_law.proofs.Sights.{Sight, Sees, Sound, put, reg_not_zero, sees_write, sees_beside, sound_write, words_put}
use Rattle.third_law.proofs.Going.{machine, WordAt, Stands, address, Before, step_at, step_is, calm_here, moves, Does}
use Rattle.third_law.proofs.Voting.{GoodBy, Good, wrote}
use Rattle.third_law.proofs.Loading.{one_step, none_some}
use Rattle.third_law.proofs.Control.{slot_calm}

-- A product and its move make one word of what the streams agree on.
pub record Multiplies (size : ℕ) (f g : Stream → Instr) (r : Role) (a : Sight) (v : ℕ) : Type 0 where
  pub fits : RoleFits r
  pub word : v < 2 ^ 32
  pub high : ℕ
  pub low : ℕ
  pub acts : (t : Stream) (s : State) → Sees size t s.regs s.memory a → act (f t) s ≡ Both high low
  pub moves : (t : Stream) (s : State) → s.hi ≡ high → s.lo ≡ low → act (g t) s ≡ Move (reg_in t r) v
  pub good : (t : Stream) (s : State) → GoodBy s (f t) × GoodBy s (g t)

abbrev halves_put : State → ℕ → ℕ → State
halves_put s h l = record (moved s) { regs = s.regs; memory = s.memory; hi = h; lo = l }

abbrev taken : State → ℕ → ℕ → State
taken s r v = record (moved s) { regs = written s.regs r v; memory = s.memory; hi = s.hi; lo = s.lo; quiet = 2 }

abbrev idle : State → State
idle s = wrote s 0 ((reg s 0 * 2 ^ 0) % 2 ^ 32)

abbrev multiplied : State → ℕ → ℕ → ℕ → ℕ → State
multiplied s h l r v = idle (idle (taken (halves_put s h l) r v))

-- a nop, whatever may not be done to HI and LO
idle_step : (text : List ℕ) (k : ℕ) (s : State) → s.text ≡ text → s.pc ≡ address k → s.end ≡ None → s.last_load ≡ 0 → WordAt text k nop → Leads machine (Good text) 1 s (idle s)
idle_step text k s same pc open_ last w =
    let q : step s ≡ (idle s, None) = step_at text k s nop same pc open_ w (slot_calm s last) in (
      record {
        open_ = open_;
        good = record { same = same; number = k; instr = nop; word = w; here = pc; by = tt; calm = λ code a h. none_some (Exception code a) (step s).0.end (ap (λ (z : State × Option ℕ). z.0.end) q ∙ open_) h };
        silent = ap (λ (z : State × Option ℕ). z.1) q;
      },
      ap (λ (z : State × Option ℕ). z.0) q,
    )

-- the words of one stream
one_product : (text : List ℕ) (size k : ℕ) (f g : Stream → Instr) (r : Role) (a : Sight) (v : ℕ) (t : Stream) (s : State) → IsText text → (m : Multiplies size f g r a v) → WordAt text k (f t) → WordAt text (suc k) (g t) → WordAt text (suc (suc k)) nop → WordAt text (suc (suc (suc k))) nop →
    Before text k 0 s → Sees size t s.regs s.memory a → Leads machine (Good text) 4 s (multiplied s m.high m.low (reg_in t r) v) × Before text (suc (suc (suc (suc k)))) 0 (multiplied s m.high m.low (reg_in t r) v)
one_product text size k f g r a v t s short m w0 w1 w2 w3 b e =
    let s1 : State = halves_put s m.high m.low in
    let b1 : Before text (suc k) 0 s1 = moves text k 0 s (f t) short w0 b s.regs s.memory m.high m.low in
    let s2 : State = taken s1 (reg_in t r) v in
    let b2 : Before text (suc (suc k)) 0 (wrote s1 (reg_in t r) v) = moves text (suc k) 0 s1 (g t) short w1 b1 (written s1.regs (reg_in t r) v) s1.memory s1.hi s1.lo in
    let b3 : Before text (suc (suc (suc k))) 0 (idle (wrote s1 (reg_in t r) v)) = moves text (suc (suc k)) 0 (wrote s1 (reg_in t r) v) nop short w2 b2 (written s1.regs (reg_in t r) v) s1.memory s1.hi s1.lo in
    let b4 : Before text (suc (suc (suc (suc k)))) 0 (idle (idle (wrote s1 (reg_in t r) v))) = moves text (suc (suc (suc k))) 0 (idle (wrote s1 (reg_in t r) v)) nop short w3 b3 (written s1.regs (reg_in t r) v) s1.memory s1.hi s1.lo in
    let s3 : State = idle s2 in
    let s4 : State = idle s3 in (
      leads_on machine (Good text) 1 3 s s1 s4 (one_step text k 0 s s1 (f t) b w0 (m.good t s).0 (step_is text k 0 s (f t) b w0 (calm_here text k s (f t) b) ∙ ap (λ (x : Act). perform x s) (m.acts t s e)) b.open_)
          (leads_on machine (Good text) 1 2 s1 s2 s4 (one_step text (suc k) 0 s1 s2 (g t) b1 w1 (m.good t s1).1 (step_is text (suc k) 0 s1 (g t) b1 w1 (calm_here text (suc k) s1 (g t) b1) ∙ ap (λ (x : Act). perform x s1) (m.moves t s1 refl refl)) b1.open_)
          (leads_on machine (Good text) 1 1 s2 s3 s4 (idle_step text (suc (suc k)) s2 b2.same b2.pc b2.open_ refl w2) (idle_step text (suc (suc (suc k))) s3 b3.same b3.pc b3.open_ refl w3))),
      record { same = b4.same; pc = b4.pc; npc = b4.npc; last = refl; quiet = refl; slot = refl; open_ = b4.open_ },
    )

twelve_on : (k : ℕ) → suc (suc (suc (suc (suc (suc (suc (suc (suc (suc (suc (suc k))))))))))) ≡ k + 12
twelve_on k = omega arith

pub does_product : (text : List ℕ) (size : ℕ) (f g : Stream → Instr) (r : Role) (a : Sight) (v : ℕ) → IsText text → Multiplies size f g r a v → Does text (Good text) size (product f g) a (put a r v)
does_product text size f g r a v short m k s h b d =
    let k4 : ℕ = suc (suc (suc (suc k))) in
    let k8 : ℕ = suc (suc (suc (suc k4))) in
    let x : (u : Stream) → reg_in u r ≢ 0 = λ u. reg_not_zero u r in
    let s1 : State = multiplied s m.high m.low (reg_in First r) v in
    let l1 : Leads machine (Good text) 4 s s1 × Before text k4 0 s1 = one_product text size k f g r a v First s short m h.0 h.1.0 h.1.1.0 h.1.1.1.0 b (d.sees First) in
    let h1 : Stands text k4 (f Second ∷ g Second ∷ nop ∷ nop ∷ f Third ∷ g Third ∷ nop ∷ nop ∷ []) = h.1.1.1.1 in
    let o1 : Sound size s1.regs s1.memory = sound_write size s.regs s.memory (reg_in First r) v (x First) d.sound in
    let p1 : Sees size First s1.regs s1.memory (put a r v) = sees_write size First s.regs s.memory a r v m.fits d.sound (d.sees First) in
    let q1 : Sees size Second s1.regs s1.memory a = sees_beside size Second First s.regs s.memory a r v m.fits refl (d.sees Second) in
    let r1 : Sees size Third s1.regs s1.memory a = sees_beside size Third First s.regs s.memory a r v m.fits refl (d.sees Third) in
    let s2 : State = multiplied s1 m.high m.low (reg_in Second r) v in
    let l2 : Leads machine (Good text) 4 s1 s2 × Before text k8 0 s2 = one_product text size k4 f g r a v Second s1 short m h1.0 h1.1.0 h1.1.1.0 h1.1.1.1.0 l1.1 q1 in
    let h2 : Stands text k8 (f Third ∷ g Third ∷ nop ∷ nop ∷ []) = h1.1.1.1.1 in
    let o2 : Sound size s2.regs s2.memory = sound_write size s1.regs s1.memory (reg_in Second r) v (x Second) o1 in
    let p2 : Sees size First s2.regs s2.memory (put a r v) = sees_beside size First Second s1.regs s1.memory (put a r v) r v m.fits refl p1 in
    let q2 : Sees size Second s2.regs s2.memory (put a r v) = sees_write size Second s1.regs s1.memory a r v m.fits o1 q1 in
    let r2 : Sees size Third s2.regs s2.memory a = sees_beside size Third Second s1.regs s1.memory a r v m.fits refl r1 in
    let s3 : State = multiplied s2 m.high m.low (reg_in Third r) v in
    let l3 : Leads machine (Good text) 4 s2 s3 × Before text (suc (suc (suc (suc k8)))) 0 s3 = one_product text size k8 f g r a v Third s2 short m h2.0 h2.1.0 h2.1.1.0 h2.1.1.1.0 l2.1 r2 in
    record {
      now = s3;
      steps = 12;
      some = λ z. absurd (Rattle.std.proofs.Common.suc-ne-zero 11 z);
      leads = leads_on machine (Good text) 4 8 s s1 s3 l1.0 (leads_on machine (Good text) 4 4 s1 s2 s3 l2.0 l3.0);
      before = subst (λ (z : ℕ). Before text z 0 s3) (twelve_on k) l3.1;
      tripled = record {
        sound = sound_write size s2.regs s2.memory (reg_in Third r) v (x Third) o2;
        sees = elim [
          | First ↦ sees_beside size First Third s2.regs s2.memory (put a r v) r v m.fits refl p2
          | Second ↦ sees_beside size Second Third s2.regs s2.memory (put a r v) r v m.fits refl q2
          | Third ↦ sees_write size Third s2.regs s2.memory a r v m.fits o2 r2
        ];
        feed = d.feed;
        fed = d.fed;
        words = words_put a r v m.word d.words;
      };
    }
