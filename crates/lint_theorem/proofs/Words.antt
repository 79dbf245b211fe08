-- What one word leaves of a state: the word at pc, words that go on to the next, and branches and jumps.
use Rattle.std.proofs.Common.{◌≡◌, ◌≢◌, ℕ, ◌+◌, ◌%◌, ◌<◌, arith, rules, ap, refl, sym, ◌∙◌, List, [], ◌∷◌, length, false, true, Bool, cond, inl, inr}
use Rattle.std.specs.Prelude.{Option, Some, None, ◌⊎◌, ◌==◌, ◌&&◌, nat_le, nat_lt, not, slice_index, slice_set}
use Rattle.mips_isa.specs.declared.instr.Instr.{Instr}
use Rattle.mips_isa.specs.declared.instr.Instr.TheVariants.{Jr, J, Jal, Beq, Bne, Break, Lw}
use Rattle.mips_isa.specs.declared.instr.Act.{Act}
use Rattle.mips_isa.specs.declared.instr.Act.TheVariants.{Write, Move, Both, Load, Store, Go, Link, Pass, Service, Stop}
use Rattle.mips_isa.specs.declared.instr.End.{End}
use Rattle.mips_isa.specs.declared.instr.End.TheVariants.{Exception, Exited, Starved, Hazard}
use Rattle.mips_isa.specs.Table.{decoded}
use Rattle.mips_isa.specs.Machine.{State, reg, act, perform, step, planned, row_act, is_hazard, is_product, is_jump, writes_of, text_place, moved, with_reg, written, plus, load, store, service, ended, in_memory, place, branch, branch_target, break_end}
use Rattle.mips_isa.specs.Locality.{Puts, Reaches, IsGoing, Leads}
use Rattle.mips_laws.proofs.Locality.{puts, reaches, going_jumps}
use Rattle.mips_text.specs.Text.{At}
use Rattle.lint_theorem.proofs.Ground.{no_truth, none_some, written_here, written_there, written_zero, written_long}

pub some_none : (e : End) → Some e ≡ None → ⊥
some_none e h = search (rules, h)

-- The word at pc decides the step.

abbrev by_tests : Bool → Bool → State → Option Instr → Act
by_tests x y s o = cond (not x) (Stop (Exception 4 s.pc)) (cond (not y) (Stop (Exception 6 s.pc)) (row_act s o))

planned_by : (x y : Bool) (s : State) (i : Instr) (o : Option Instr) → cond (x && y) o None ≡ Some i → by_tests x y s o ≡ row_act s (Some i)
planned_by false y s i o e = absurd (none_some i e)
planned_by true false s i o e = absurd (none_some i e)
planned_by true true s i o e = ap (λ (p : Option Instr). row_act s p) e

pub planned_at : (s : State) (i : Instr) → At s.text s.pc i → planned s ≡ row_act s (Some i)
planned_at s i e = planned_by (s.pc % 4 == 0) (nat_le 0x00400000 s.pc && nat_lt (text_place s.pc) (length s.text)) s i (decoded (slice_index s.text (text_place s.pc))) e

pub step_at : (s : State) (i : Instr) → s.end ≡ None → At s.text s.pc i → step s ≡ perform (row_act s (Some i)) s
step_at s i e h = going_on ∙ ap (λ (a : Act). perform a s) (planned_at s i h)
  where
    going_on : step s ≡ perform (planned s) s
    going_on = rw e refl

-- without a hazard it does its act
pub step_does : (s : State) (i : Instr) → s.end ≡ None → At s.text s.pc i → is_hazard s i ≡ false → step s ≡ perform (act i s) s
step_does s i e h z = step_at s i e h ∙ ap (λ (b : Bool). perform (cond b (Stop (Hazard s.pc)) (act i s)) s) z

-- where the run goes on there was none
no_hazard_by : (s : State) (i : Instr) (z : Bool) → is_hazard s i ≡ z → (perform (cond z (Stop (Hazard s.pc)) (act i s)) s).0.end ≡ None → is_hazard s i ≡ false
no_hazard_by s i true e h = absurd (some_none (Hazard s.pc) h)
no_hazard_by s i false e h = e

pub no_hazard : (s : State) (i : Instr) → s.end ≡ None → At s.text s.pc i → (step s).0.end ≡ None → is_hazard s i ≡ false
no_hazard s i e h g = no_hazard_by s i (is_hazard s i) refl (ap (λ (x : State × Option ℕ). x.0.end) (sym (step_at s i e h)) ∙ g)

-- a word that is neither, behind a word that loads nothing, meets none
pub free : (s : State) (i : Instr) → s.last_load ≡ 0 → is_product i ≡ false → is_jump i ≡ false → is_hazard s i ≡ false
free s i e p j = rw (e, p, j) refl

-- what a word that is no branch or jump leaves, where the run goes on
pub record Passed (i : Instr) (s t : State) : Type 0 where
  pub text : t.text ≡ s.text
  pub pc : t.pc ≡ s.npc
  pub npc : t.npc ≡ plus s.npc 4
  pub slot : t.slot ≡ false
  pub long : length t.regs ≡ length s.regs
  pub zero : slice_index t.regs 0 ≡ slice_index s.regs 0
  pub kept : (q : ℕ) → (writes_of i ≡ q ∷ [] → ⊥) → slice_index t.regs q ≡ slice_index s.regs q
  pub wrote : (d v : ℕ) → act i s ≡ Write d v → d ≢ 0 → d < length s.regs → slice_index t.regs d ≡ v
  pub loaded : (t.last_load ≡ 0) ⊎ ((rs : ℕ) × (imm : ℕ) × (i ≡ Lw t.last_load rs imm))

-- a register that a word does not write is kept
kept_by : (ds l : List ℕ) (d v q : ℕ) → ds ≡ d ∷ [] → (ds ≡ q ∷ [] → ⊥) → slice_index (written l d v) q ≡ slice_index l q
kept_by ds l d v q e n = written_there l d v q (λ f. n (e ∙ ap (λ (x : ℕ). x ∷ []) (sym f)))

-- and one that it writes has its word
wrote_by : (l : List ℕ) (d v e w : ℕ) → Write d v ≡ Write e w → e ≢ 0 → e < length l → slice_index (written l d v) e ≡ w
wrote_by l d v e w h n k =
    let x : d ≡ e = cc in
    let y : v ≡ w = cc in
    rw (x, y) (written_here l e w n k)

abbrev Ends : Instr → State → State × Option ℕ → Type 0
Ends i s x = x.0.end ≡ None → Passed i s x.0

load_passes : (i : Instr) (s : State) (d a : ℕ) → act i s ≡ Load d a → Puts (writes_of i) (Load d a) → Reaches i s (Load d a) → Ends i s (load s d a)
load_passes i s d a e p r =
    elim (not (a % 4 == 0)) as (λ z. Ends i s (cond z (ended (Exception 4 s.pc) s) (cond (not (in_memory s a)) (ended (Exception 7 s.pc) s) (record (with_reg (moved s) d (slice_index s.memory (place a))) { last_load = d }, None)))) [
      | true ↦ λ h. absurd (some_none (Exception 4 s.pc) h)
      | false ↦ elim (not (in_memory s a)) as (λ z. Ends i s (cond z (ended (Exception 7 s.pc) s) (record (with_reg (moved s) d (slice_index s.memory (place a))) { last_load = d }, None))) [
        | true ↦ λ h. absurd (some_none (Exception 7 s.pc) h)
        | false ↦ λ h. record {
          text = refl;
          pc = refl;
          npc = refl;
          slot = refl;
          long = written_long s.regs d (slice_index s.memory (place a));
          zero = written_zero s.regs d (slice_index s.memory (place a));
          kept = λ q n. kept_by (writes_of i) s.regs d (slice_index s.memory (place a)) q p n;
          wrote = λ d' v k n b. absurd (other d' v k);
          loaded = inr (r.0, r.1, r.2);
        }
      ]
    ]
  where
    other : (d' v : ℕ) → act i s ≡ Write d' v → ⊥
    other d' v k = cc

store_passes : (i : Instr) (s : State) (a v : ℕ) → act i s ≡ Store a v → Ends i s (store s a v)
store_passes i s a v e =
    elim (not (a % 4 == 0)) as (λ z. Ends i s (cond z (ended (Exception 5 s.pc) s) (cond (not (in_memory s a)) (ended (Exception 7 s.pc) s) (record (moved s) { memory = slice_set s.memory (place a) v }, None)))) [
      | true ↦ λ h. absurd (some_none (Exception 5 s.pc) h)
      | false ↦ elim (not (in_memory s a)) as (λ z. Ends i s (cond z (ended (Exception 7 s.pc) s) (record (moved s) { memory = slice_set s.memory (place a) v }, None))) [
        | true ↦ λ h. absurd (some_none (Exception 7 s.pc) h)
        | false ↦ λ h. record {
          text = refl;
          pc = refl;
          npc = refl;
          slot = refl;
          long = refl;
          zero = refl;
          kept = λ q n. refl;
          wrote = λ d w k n b. absurd (other d w k);
          loaded = inl refl;
        }
      ]
    ]
  where
    other : (d w : ℕ) → act i s ≡ Write d w → ⊥
    other d w k = cc

service_passes : (i : Instr) (s : State) → act i s ≡ Service → Puts (writes_of i) Service → Ends i s (service s)
service_passes i s e p =
    elim (reg s 2 == 1) as (λ z. Ends i s (cond z (moved s, Some (reg s 4)) (cond (reg s 2 == 5) (cond (nat_lt s.fed (length s.feed)) (record (with_reg (moved s) 2 (slice_index s.feed s.fed)) { fed = s.fed + 1 }, None) (ended Starved s)) (cond (reg s 2 == 17) (ended (Exited (reg s 4)) s) (ended (Exception 8 s.pc) s))))) [
      | true ↦ λ h. record {
        text = refl;
        pc = refl;
        npc = refl;
        slot = refl;
        long = refl;
        zero = refl;
        kept = λ q n. refl;
        wrote = λ d w k n b. absurd (other d w k);
        loaded = inl refl;
      }
      | false ↦ elim (reg s 2 == 5) as (λ z. Ends i s (cond z (cond (nat_lt s.fed (length s.feed)) (record (with_reg (moved s) 2 (slice_index s.feed s.fed)) { fed = s.fed + 1 }, None) (ended Starved s)) (cond (reg s 2 == 17) (ended (Exited (reg s 4)) s) (ended (Exception 8 s.pc) s)))) [
        | true ↦ elim (nat_lt s.fed (length s.feed)) as (λ z. Ends i s (cond z (record (with_reg (moved s) 2 (slice_index s.feed s.fed)) { fed = s.fed + 1 }, None) (ended Starved s))) [
          | true ↦ λ h. record {
            text = refl;
            pc = refl;
            npc = refl;
            slot = refl;
            long = written_long s.regs 2 (slice_index s.feed s.fed);
            zero = written_zero s.regs 2 (slice_index s.feed s.fed);
            kept = λ q n. kept_by (writes_of i) s.regs 2 (slice_index s.feed s.fed) q p n;
            wrote = λ d w k n b. absurd (other d w k);
            loaded = inl refl;
          }
          | false ↦ λ h. absurd (some_none Starved h)
        ]
        | false ↦ elim (reg s 2 == 17) as (λ z. Ends i s (cond z (ended (Exited (reg s 4)) s) (ended (Exception 8 s.pc) s))) [
          | true ↦ λ h. absurd (some_none (Exited (reg s 4)) h)
          | false ↦ λ h. absurd (some_none (Exception 8 s.pc) h)
        ]
      ]
    ]
  where
    other : (d w : ℕ) → act i s ≡ Write d w → ⊥
    other d w k = cc

passes_by : (i : Instr) (s : State) (a : Act) → act i s ≡ a → Puts (writes_of i) a → Reaches i s a → (IsGoing a → ⊥) → Ends i s (perform a s)
passes_by i s (Write d v) e p r g = λ h. record {
  text = refl;
  pc = refl;
  npc = refl;
  slot = refl;
  long = written_long s.regs d v;
  zero = written_zero s.regs d v;
  kept = λ q n. kept_by (writes_of i) s.regs d v q p n;
  wrote = λ d' w k n b. wrote_by s.regs d v d' w (sym e ∙ k) n b;
  loaded = inl refl;
}
passes_by i s (Move d v) e p r g = λ h. record {
  text = refl;
  pc = refl;
  npc = refl;
  slot = refl;
  long = written_long s.regs d v;
  zero = written_zero s.regs d v;
  kept = λ q n. kept_by (writes_of i) s.regs d v q p n;
  wrote = λ d' w k n b. absurd (other d' w k);
  loaded = inl refl;
}
  where
    other : (d' w : ℕ) → act i s ≡ Write d' w → ⊥
    other d' w k = cc
passes_by i s (Both x y) e p r g = λ h. record {
  text = refl;
  pc = refl;
  npc = refl;
  slot = refl;
  long = refl;
  zero = refl;
  kept = λ q n. refl;
  wrote = λ d w k n b. absurd (other d w k);
  loaded = inl refl;
}
  where
    other : (d w : ℕ) → act i s ≡ Write d w → ⊥
    other d w k = cc
passes_by i s (Load d a) e p r g = load_passes i s d a e p r
passes_by i s (Store a v) e p r g = store_passes i s a v e
passes_by i s (Go to) e p r g = absurd (g tt)
passes_by i s (Link to) e p r g = absurd (g tt)
passes_by i s Pass e p r g = absurd (g tt)
passes_by i s Service e p r g = service_passes i s e p
passes_by i s (Stop end) e p r g = λ h. absurd (some_none end h)

pub passes : (i : Instr) (s : State) → is_jump i ≡ false → (perform (act i s) s).0.end ≡ None → Passed i s (perform (act i s) s).0
passes i s j h = passes_by i s (act i s) refl (puts i s) (reaches i s) (λ g. no_truth (sym j ∙ going_jumps i s g)) h

-- a break ends the run
pub no_break : (i : Instr) (s : State) (code : ℕ) → (perform (act i s) s).0.end ≡ None → i ≡ Break code → ⊥
no_break i s code h e = some_none (break_end s.pc code) (ap (λ (k : Instr). (perform (act k s) s).0.end) (sym e) ∙ h)

-- what a branch or jump leaves
pub record Turned (i : Instr) (s : State) (x : State × Option ℕ) : Type 0 where
  pub silent : x.1 ≡ None
  pub going : x.0.end ≡ s.end
  pub text : x.0.text ≡ s.text
  pub pc : x.0.pc ≡ s.npc
  pub slot : x.0.slot ≡ true
  pub unloaded : x.0.last_load ≡ 0
  pub long : length x.0.regs ≡ length s.regs
  pub zero : slice_index x.0.regs 0 ≡ slice_index s.regs 0
  pub kept : (q : ℕ) → q ≢ 31 → slice_index x.0.regs q ≡ slice_index s.regs q
  pub leads : Leads i s x.0.npc
  pub tested : (p q imm : ℕ) → i ≡ Beq p q imm → ((x.0.npc ≡ branch_target s imm) × (reg s p ≡ reg s q)) ⊎ ((x.0.npc ≡ plus (plus s.pc 4) 4) × (reg s p ≢ reg s q))

not_beq_j : (t p q imm : ℕ) → J t ≡ Beq p q imm → ⊥
not_beq_j t p q imm e = cc

not_beq_jal : (t p q imm : ℕ) → Jal t ≡ Beq p q imm → ⊥
not_beq_jal t p q imm e = cc

not_beq_jr : (r p q imm : ℕ) → Jr r ≡ Beq p q imm → ⊥
not_beq_jr r p q imm e = cc

not_beq_bne : (x y m p q imm : ℕ) → Bne x y m ≡ Beq p q imm → ⊥
not_beq_bne x y m p q imm e = cc

same_of : (a b : ℕ) → (a == b) ≡ true → a ≡ b
same_of a b h = grind arith

other_of : (a b : ℕ) → (a == b) ≡ false → a ≢ b
other_of a b h = grind arith

beq_turns : (x y m : ℕ) (s : State) (z : Bool) → (reg s x == reg s y) ≡ z → s.npc ≡ plus s.pc 4 → Turned (Beq x y m) s (perform (branch z s m) s)
beq_turns x y m s true e n = record {
  silent = refl;
  going = refl;
  text = refl;
  pc = refl;
  slot = refl;
  unloaded = refl;
  long = refl;
  zero = refl;
  kept = λ q k. refl;
  leads = inl refl;
  tested = λ p q imm f. inl (ap (λ (k : ℕ). branch_target s k) (same_imm p q imm f), same_regs p q imm f);
}
  where
    same_imm : (p q imm : ℕ) → Beq x y m ≡ Beq p q imm → m ≡ imm
    same_imm p q imm f = cc

    same_x : (p q imm : ℕ) → Beq x y m ≡ Beq p q imm → x ≡ p
    same_x p q imm f = cc

    same_y : (p q imm : ℕ) → Beq x y m ≡ Beq p q imm → y ≡ q
    same_y p q imm f = cc

    same_regs : (p q imm : ℕ) → Beq x y m ≡ Beq p q imm → reg s p ≡ reg s q
    same_regs p q imm f = ap (λ (k : ℕ). reg s k) (sym (same_x p q imm f)) ∙ (same_of (reg s x) (reg s y) e ∙ ap (λ (k : ℕ). reg s k) (same_y p q imm f))
beq_turns x y m s false e n = record {
  silent = refl;
  going = refl;
  text = refl;
  pc = refl;
  slot = refl;
  unloaded = refl;
  long = refl;
  zero = refl;
  kept = λ q k. refl;
  leads = inr (ap (λ (k : ℕ). plus k 4) n);
  tested = λ p q imm f. inr (ap (λ (k : ℕ). plus k 4) n, λ g. other_of (reg s x) (reg s y) e (ap (λ (k : ℕ). reg s k) (same_x p q imm f) ∙ (g ∙ ap (λ (k : ℕ). reg s k) (sym (same_y p q imm f)))));
}
  where
    same_x : (p q imm : ℕ) → Beq x y m ≡ Beq p q imm → x ≡ p
    same_x p q imm f = cc

    same_y : (p q imm : ℕ) → Beq x y m ≡ Beq p q imm → y ≡ q
    same_y p q imm f = cc

bne_turns : (x y m : ℕ) (s : State) (z : Bool) → s.npc ≡ plus s.pc 4 → Turned (Bne x y m) s (perform (branch z s m) s)
bne_turns x y m s true n = record {
  silent = refl;
  going = refl;
  text = refl;
  pc = refl;
  slot = refl;
  unloaded = refl;
  long = refl;
  zero = refl;
  kept = λ q k. refl;
  leads = inl refl;
  tested = λ p q imm f. absurd (not_beq_bne x y m p q imm f);
}
bne_turns x y m s false n = record {
  silent = refl;
  going = refl;
  text = refl;
  pc = refl;
  slot = refl;
  unloaded = refl;
  long = refl;
  zero = refl;
  kept = λ q k. refl;
  leads = inr (ap (λ (k : ℕ). plus k 4) n);
  tested = λ p q imm f. absurd (not_beq_bne x y m p q imm f);
}

pub turns : (i : Instr) (s : State) → is_jump i ≡ true → s.npc ≡ plus s.pc 4 → Turned i s (perform (act i s) s)
turns (J t) s j n = record {
  silent = refl;
  going = refl;
  text = refl;
  pc = refl;
  slot = refl;
  unloaded = refl;
  long = refl;
  zero = refl;
  kept = λ q k. refl;
  leads = refl;
  tested = λ p q imm f. absurd (not_beq_j t p q imm f);
}
turns (Jr r) s j n = record {
  silent = refl;
  going = refl;
  text = refl;
  pc = refl;
  slot = refl;
  unloaded = refl;
  long = refl;
  zero = refl;
  kept = λ q k. refl;
  leads = refl;
  tested = λ p q imm f. absurd (not_beq_jr r p q imm f);
}
turns (Jal t) s j n = record {
  silent = refl;
  going = refl;
  text = refl;
  pc = refl;
  slot = refl;
  unloaded = refl;
  long = written_long s.regs 31 (plus s.pc 8);
  zero = written_zero s.regs 31 (plus s.pc 8);
  kept = λ q k. written_there s.regs 31 (plus s.pc 8) q k;
  leads = refl;
  tested = λ p q imm f. absurd (not_beq_jal t p q imm f);
}
turns (Beq x y m) s j n = beq_turns x y m s (reg s x == reg s y) refl n
turns (Bne x y m) s j n = bne_turns x y m s (not (reg s x == reg s y)) n
turns _ s j n = absurd (no_truth j)
