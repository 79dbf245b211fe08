-- A call, and a return to the word behind one.
use Rattle.std.proofs.Common.{◌≡◌, ◌≢◌, ◌≤◌, ◌<◌, ℕ, zero, suc, ◌+◌, ◌-◌, ◌*◌, ◌/◌, ◌%◌, ◌^◌, arith, ap, refl, sym, ◌∙◌, subst, List, [], ◌∷◌, ◌++◌, length, Bool, true, false, inl, inr}
use Rattle.std.specs.Prelude.{None, bit_or}
use Rattle.hard_runs.specs.Stepping.{Leads}
use Rattle.hard_runs.proofs.Following.{leads_on}
use Rattle.mips_isa.specs.declared.instr.Instr.{Instr}
use Rattle.mips_isa.specs.declared.instr.Instr.TheVariants.{Lui, Ori, Jal, Jr}
use Rattle.mips_isa.specs.Machine.{State, step, reg, moved, written, plus, jump_target}
use Rattle.third_law.specs.declared.roles.Stream.{Stream}
use Rattle.third_law.specs.declared.roles.Stream.TheVariants.{First, Second, Third}
use Rattle.third_law.specs.declared.roles.Role.TheVariants.{Link}
use Rattle.third_law.specs.Roles.{reg_in, nop, vote}
use Rattle.third_law.specs.Emitted.{call_code}
use Rattle.third_law.proofs.Sights.{Sight, Sees, Sound, Tripled, put, reg_not_zero, sees_write, sees_beside, sound_write, words_put}
use Rattle.third_law.proofs.Going.{machine, WordAt, Stands, Done, Before, address, step_is, calm_here, stands_first, stands_rest}
use Rattle.third_law.proofs.Voting.{Good, wrote, write_leads, write_on, does_vote}
use Rattle.third_law.proofs.Loading.{one_step}
use Rattle.third_law.proofs.Control.{Passed, passes, Landed, lands, aim, Arrives}
use Rattle.third_law.proofs.Leading.{Runnable, SameSight}
use Rattle.third_law.proofs.Arithmetic.{word_joined}
use Rattle.third_law.proofs.Operations.{put_twice}
use Rattle.third_law.proofs.Relation.{BehindCall}

-- Some code leads to the word of a number.
abbrev pub DoesGo : Runnable → ℕ → ℕ → List Instr → Sight → Sight → Type 0
DoesGo p size m code a a' = (k : ℕ) (s : State) → Stands p.text k code → Before p.text k 0 s → Tripled size s a → Arrives p.text size m s a'

sees_same : (size : ℕ) (t : Stream) (regs memory : List ℕ) (a b : Sight) → SameSight a b → Sees size t regs memory a → Sees size t regs memory b
sees_same size t regs memory a b e s = record { file = λ r f. s.file r f ∙ e.file r; cell = λ c h. s.cell c h ∙ e.cell c }

-- the upper half of a word comes to a register, and then the lower
abbrev upper_word : ℕ → ℕ
upper_word w = w / 2 ^ 16 * 2 ^ 16

joins : (x w : ℕ) → x ≡ upper_word w → bit_or x (w % 2 ^ 16) ≡ w
joins x w e = ap (λ (n : ℕ). bit_or n (w % 2 ^ 16)) e ∙ word_joined w

-- the return address comes to the second and third stream
record Readied (p : Runnable) (size k : ℕ) (s : State) (a : Sight) (back : ℕ) : Type 0 where
  now : State
  leads : Leads machine (Good p.text) 4 s now
  before : Before p.text (suc (suc (suc (suc k)))) 0 now
  sound : Sound size now.regs now.memory
  first : Sees size First now.regs now.memory a
  second : Sees size Second now.regs now.memory (put a Link back)
  third : Sees size Third now.regs now.memory (put a Link back)
  feed : now.feed ≡ a.feed
  fed : now.fed ≡ a.fed

readied : (p : Runnable) (size k to back : ℕ) (s : State) (a : Sight) → Stands p.text k (call_code to back) → Before p.text k 0 s → Tripled size s a → Readied p size k s a back
readied p size k to back s a h b d =
    let hi : ℕ = upper_word back in
    let x : (u : Stream) → reg_in u Link ≢ 0 = λ u. reg_not_zero u Link in
    let s1 : State = wrote s 25 hi in
    let b1 : Before p.text (suc k) 0 s1 = write_on p.text k s (Lui 25 (back / 2 ^ 16)) 25 hi p.is_text b h.0 in
    let o1 : Sound size s1.regs s1.memory = sound_write size s.regs s.memory 25 hi (x Second) d.sound in
    let p1 : Sees size First s1.regs s1.memory a = sees_beside size First Second s.regs s.memory a Link hi tt refl (d.sees First) in
    let q1 : Sees size Second s1.regs s1.memory (put a Link hi) = sees_write size Second s.regs s.memory a Link hi tt d.sound (d.sees Second) in
    let r1 : Sees size Third s1.regs s1.memory a = sees_beside size Third Second s.regs s.memory a Link hi tt refl (d.sees Third) in
    let v2 : ℕ = bit_or (reg s1 25) (back % 2 ^ 16) in
    let is2 : v2 ≡ back = joins (reg s1 25) back (q1.file Link tt) in
    let s2 : State = wrote s1 25 v2 in
    let b2 : Before p.text (suc (suc k)) 0 s2 = write_on p.text (suc k) s1 (Ori 25 25 (back % 2 ^ 16)) 25 v2 p.is_text b1 h.1.0 in
    let o2 : Sound size s2.regs s2.memory = sound_write size s1.regs s1.memory 25 v2 (x Second) o1 in
    let p2 : Sees size First s2.regs s2.memory a = sees_beside size First Second s1.regs s1.memory a Link v2 tt refl p1 in
    let q2 : Sees size Second s2.regs s2.memory (put a Link back) = sees_same size Second s2.regs s2.memory (put (put a Link hi) Link back) (put a Link back) (put_twice a Link hi back)
    (subst (λ (z : ℕ). Sees size Second s2.regs s2.memory (put (put a Link hi) Link z)) is2 (sees_write size Second s1.regs s1.memory (put a Link hi) Link v2 tt o1 q1)) in
    let r2 : Sees size Third s2.regs s2.memory a = sees_beside size Third Second s1.regs s1.memory a Link v2 tt refl r1 in
    let s3 : State = wrote s2 24 hi in
    let b3 : Before p.text (suc (suc (suc k))) 0 s3 = write_on p.text (suc (suc k)) s2 (Lui 24 (back / 2 ^ 16)) 24 hi p.is_text b2 h.1.1.0 in
    let o3 : Sound size s3.regs s3.memory = sound_write size s2.regs s2.memory 24 hi (x Third) o2 in
    let p3 : Sees size First s3.regs s3.memory a = sees_beside size First Third s2.regs s2.memory a Link hi tt refl p2 in
    let q3 : Sees size Second s3.regs s3.memory (put a Link back) = sees_beside size Second Third s2.regs s2.memory (put a Link back) Link hi tt refl q2 in
    let r3 : Sees size Third s3.regs s3.memory (put a Link hi) = sees_write size Third s2.regs s2.memory a Link hi tt o2 r2 in
    let v4 : ℕ = bit_or (reg s3 24) (back % 2 ^ 16) in
    let is4 : v4 ≡ back = joins (reg s3 24) back (r3.file Link tt) in
    let s4 : State = wrote s3 24 v4 in
    record {
      now = s4;
      leads = leads_on machine (Good p.text) 1 3 s s1 s4 (write_leads p.text k s (Lui 25 (back / 2 ^ 16)) 25 hi b h.0 refl tt)
          (leads_on machine (Good p.text) 1 2 s1 s2 s4 (write_leads p.text (suc k) s1 (Ori 25 25 (back % 2 ^ 16)) 25 v2 b1 h.1.0 refl tt)
          (leads_on machine (Good p.text) 1 1 s2 s3 s4 (write_leads p.text (suc (suc k)) s2 (Lui 24 (back / 2 ^ 16)) 24 hi b2 h.1.1.0 refl tt)
          (write_leads p.text (suc (suc (suc k))) s3 (Ori 24 24 (back % 2 ^ 16)) 24 v4 b3 h.1.1.1.0 refl tt)));
      before = write_on p.text (suc (suc (suc k))) s3 (Ori 24 24 (back % 2 ^ 16)) 24 v4 p.is_text b3 h.1.1.1.0;
      sound = sound_write size s3.regs s3.memory 24 v4 (x Third) o3;
      first = sees_beside size First Third s3.regs s3.memory a Link v4 tt refl p3;
      second = sees_beside size Second Third s3.regs s3.memory (put a Link back) Link v4 tt refl q3;
      third = sees_same size Third s4.regs s4.memory (put (put a Link hi) Link back) (put a Link back) (put_twice a Link hi back)
          (subst (λ (z : ℕ). Sees size Third s4.regs s4.memory (put (put a Link hi) Link z)) is4 (sees_write size Third s3.regs s3.memory (put a Link hi) Link v4 tt o3 r3));
      feed = d.feed;
      fed = d.fed;
    }

back_is : (pc k back : ℕ) → pc ≡ 0x00400000 + 4 * suc (suc (suc (suc k))) → k < 66060288 → back ≡ 0x00400000 + 4 * (k + 6) → (pc + 8) % 2 ^ 32 ≡ back
back_is pc k back e h g = omega arith

word_small : (k back : ℕ) → k < 66060288 → back ≡ 0x00400000 + 4 * (k + 6) → back < 2 ^ 32
word_small k back h g = omega arith

-- A call of the word of a number: all streams have the address of the word behind it.
pub goes_call : (p : Runnable) (size k m back : ℕ) (a : Sight) (s : State) → back ≡ address (k + 6) → m < 66060288 → Stands p.text k (call_code (address m) back) → Before p.text k 0 s → Tripled size s a → Arrives p.text size m s (put a Link back)
goes_call p size k m back a s is low h b d =
    let to : ℕ = address m in
    let j : ℕ = suc (suc (suc (suc k))) in
    let r : Readied p size k s a back = readied p size k to back s a h b d in
    let s4 : State = r.now in
    let wj : WordAt p.text j (Jal (to / 4)) = h.1.1.1.1.0 in
    let wn : WordAt p.text (suc j) nop = h.1.1.1.1.1.0 in
    let in_text : suc j < length p.text = Rattle.std.proofs.lemmas.Option.slice_get_within p.text (suc j) wn.0 wn.1 in
    let short : suc j < 66060288 = room (suc j) (length p.text) p.is_text in_text in
    let v : ℕ = plus s4.pc 8 in
    let is5 : v ≡ back = back_is s4.pc k back r.before.pc (early k short) is in
    let s5 : State = record (moved s4) { regs = written s4.regs 31 v; memory = s4.memory; hi = s4.hi; lo = s4.lo; npc = jump_target s4 (to / 4); slot = true } in
    let q : step s4 ≡ (s5, None) = step_is p.text j 0 s4 (Jal (to / 4)) r.before wj (calm_here p.text j s4 (Jal (to / 4)) r.before) in
    let y : Passed p.text m s5 = passes p.text (suc j) m s5 (record { same = r.before.same; pc = r.before.npc; npc = aim s4.pc j m r.before.pc short low; last = refl; quiet = ap (λ (n : ℕ). n - 1) r.before.quiet; open_ = r.before.open_ }) wn (Rattle.std.proofs.Common.le_of_lt low) in
    let d5 : Tripled size s5 (put a Link back) = record {
      sound = sound_write size s4.regs s4.memory 31 v (reg_not_zero First Link) r.sound;
      sees = elim [
        | First ↦ subst (λ (z : ℕ). Sees size First s5.regs s5.memory (put a Link z)) is5 (sees_write size First s4.regs s4.memory a Link v tt r.sound r.first)
        | Second ↦ sees_beside size Second First s4.regs s4.memory (put a Link back) Link v tt refl r.second
        | Third ↦ sees_beside size Third First s4.regs s4.memory (put a Link back) Link v tt refl r.third
      ];
      feed = r.feed;
      fed = r.fed;
      words = words_put a Link back (word_small k back (early k short) is) d.words;
    } in
    record {
      now = y.now;
      steps = 5;
      leads = leads_on machine (Good p.text) 4 2 s s4 y.now r.leads
          (leads_on machine (Good p.text) 1 1 s4 s5 y.now (one_step p.text j 0 s4 s5 (Jal (to / 4)) r.before wj tt q r.before.open_) y.leads);
      before = y.before;
      tripled = y.keeps size (put a Link back) d5;
    }
  where
    room : (k n : ℕ) → n ≤ 66060288 → k < n → k < 66060288
    room k n h l = omega arith

    early : (k : ℕ) → suc (suc (suc (suc (suc k)))) < 66060288 → k < 66060288
    early k h = omega arith

-- the word that a call comes back to is the second behind it
pub behind_call : (p : Runnable) (k to back : ℕ) → Stands p.text k (call_code to back) → BehindCall p.text (k + 6)
behind_call p k to back h = (suc (suc (suc (suc k))), to / 4, h.1.1.1.1.0, six k)
  where
    six : (k : ℕ) → k + 6 ≡ suc (suc (suc (suc k))) + 2
    six k = omega arith

-- A return to a word behind a call.
pub goes_return : (p : Runnable) (size m : ℕ) (a : Sight) → a.file Link ≡ address m → BehindCall p.text m → m < 66060288 → DoesGo p size m (vote Link ++ Jr 31 ∷ nop ∷ []) a a
goes_return p size m a is call low k s h b d =
    let v : Done p.text (Good p.text) size k (vote Link) s a = does_vote p.text size Link a p.is_text tt k s (stands_first p.text k (vote Link) (Jr 31 ∷ nop ∷ []) h) b d in
    let w : Stands p.text (k + 6) (Jr 31 ∷ nop ∷ []) = stands_rest p.text k (vote Link) (Jr 31 ∷ nop ∷ []) h in
    let s1 : State = v.now in
    let there : reg s1 31 ≡ address m = (v.tripled.sees First).file Link tt ∙ is in
    let l : Landed p.text m s1 = lands p.text (k + 6) m (reg s1 31) s1 (Jr 31) v.before w.0 w.1.0
    (call.0, call.1, subst (λ (t : List ℕ). WordAt t call.0 (Jal call.1)) (sym v.before.same) call.2, there ∙ eight m call.0 call.3) (inl refl) there (Rattle.std.proofs.Common.le_of_lt low) in
    record {
      now = l.now;
      steps = v.steps + 1;
      leads = subst (λ (n : ℕ). Leads machine (Good p.text) n s l.now) (two_more v.steps) (leads_on machine (Good p.text) v.steps 2 s s1 l.now v.leads l.leads);
      before = l.before;
      tripled = l.keeps size a v.tripled;
    }
  where
    eight : (m j : ℕ) → m ≡ j + 2 → 0x00400000 + 4 * m ≡ 0x00400000 + 4 * j + 8
    eight m j e = omega arith

    two_more : (n : ℕ) → n + 2 ≡ suc (n + 1)
    two_more n = omega arith
