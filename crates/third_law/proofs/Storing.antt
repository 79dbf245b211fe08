-- A store in all streams.
use Rattle.std.proofs.Common.{◌≡◌, ◌≢◌, ◌≤◌, ◌<◌, ℕ, zero, suc, ◌+◌, ◌-◌, ◌*◌, ◌/◌, ◌%◌, ◌^◌, arith, ap, refl, sym, ◌∙◌, subst, List, [], ◌∷◌, ◌++◌, length, get_or, Bool, true, false, cond, not, inl, inr, get_or-set_same, get_or-set_other, length-set}
use Rattle.std.specs.Prelude.{Option, None, slice_set, ◌==◌, if◌then◌else◌}
use Rattle.hard_words.specs.Words.{extended}
use Rattle.hard_runs.specs.Stepping.{Leads}
use Rattle.hard_runs.proofs.Following.{leads_on}
use Rattle.mips_isa.specs.declared.instr.Instr.{Instr}
use Rattle.mips_isa.specs.declared.instr.Instr.TheVariants.{Sw}
use Rattle.mips_isa.specs.declared.instr.End.TheVariants.{Exception}
use Rattle.mips_isa.specs.Machine.{State, reg, moved, plus, place, in_memory, store, ended}
use Rattle.mips_text.specs.Text.{IsText}
use Rattle.third_law.specs.declared.roles.Stream.{Stream}
use Rattle.third_law.specs.declared.roles.Stream.TheVariants.{First, Second, Third}
use Rattle.third_law.specs.declared.roles.Role.{Role}
use Rattle.third_law.specs.Roles as roles
use Rattle.third_law.specs.Roles.{RoleFits, reg_in, off_in, each, vote}
use Rattle.third_law.proofs.Sights.{Sight, Sees, Sound, lane, same_stream}
use Rattle.third_law.proofs.Going.{machine, WordAt, Before, step_is, calm_here, moves, Does, does_then}
use Rattle.third_law.proofs.Voting.{OfStream, Good, does_vote}
use Rattle.third_law.proofs.Loading.{cell_of, place_is, aligned_by, lane_fits, inside, of_its_stream, LeadsTo, two_tests, one_step}

-- The sight with a new word in one cell.
abbrev pub set_cell : Sight → ℕ → ℕ → Sight
set_cell a c v = record a { cell = λ q. if q == c then v else a.cell q }

lanes_differ : (u t : Stream) → same_stream u t ≡ false → lane u ≢ lane t
lanes_differ First First h = absurd (Rattle.std.proofs.Common.true≢false h)
lanes_differ First Second h = λ e. omega arith
lanes_differ First Third h = λ e. omega arith
lanes_differ Second First h = λ e. omega arith
lanes_differ Second Second h = absurd (Rattle.std.proofs.Common.true≢false h)
lanes_differ Second Third h = λ e. omega arith
lanes_differ Third First h = λ e. omega arith
lanes_differ Third Second h = λ e. omega arith
lanes_differ Third Third h = absurd (Rattle.std.proofs.Common.true≢false h)

lanes_apart : (e c g h : ℕ) → g ≤ 2 → h ≤ 2 → g ≢ h → 4 * e + g ≢ 4 * c + h
lanes_apart e c g h k l n = λ z. n (omega arith)

cells_apart : (e c h : ℕ) → (e == c) ≡ false → 4 * e + h ≢ 4 * c + h
cells_apart e c h k = λ z. grind arith

eq_is : (m n : ℕ) → (m == n) ≡ true → m ≡ n
eq_is m n h = grind arith

within : (c h size n : ℕ) → n ≡ 4 * size → c < size → h ≤ 2 → 4 * c + h < n
within c h size n e k l = omega arith

sees_store : (size : ℕ) (t : Stream) (regs memory : List ℕ) (a : Sight) (c v : ℕ) → c < size → length memory ≡ 4 * size → Sees size t regs memory a → Sees size t regs (slice_set memory (4 * c + lane t) v) (set_cell a c v)
sees_store size t regs memory a c v k len s = record {
  file = s.file;
  cell = λ e l. elim (e == c) as (λ z. (e == c) ≡ z → get_or (slice_set memory (4 * c + lane t) v) (4 * e + lane t) 0 ≡ cond z v (a.cell e)) [
    | true ↦ λ q. subst (λ (x : ℕ). get_or (slice_set memory (4 * c + lane t) v) (4 * x + lane t) 0 ≡ v) (sym (eq_is e c q)) (get_or-set_same memory (4 * c + lane t) v 0 (within c (lane t) size (length memory) len k (lane_fits t)))
    | false ↦ λ q. get_or-set_other memory (4 * c + lane t) (4 * e + lane t) v 0 (cells_apart e c (lane t) q) ∙ s.cell e l
  ] refl;
}

sees_store_beside : (size : ℕ) (u t : Stream) (regs memory : List ℕ) (a : Sight) (c v : ℕ) → same_stream u t ≡ false → Sees size u regs memory a → Sees size u regs (slice_set memory (4 * c + lane t) v) a
sees_store_beside size u t regs memory a c v h s = record {
  file = s.file;
  cell = λ e l. get_or-set_other memory (4 * c + lane t) (4 * e + lane u) v 0 (lanes_apart e c (lane u) (lane t) (lane_fits u) (lane_fits t) (lanes_differ u t h)) ∙ s.cell e l;
}

sound_store : (size : ℕ) (regs memory : List ℕ) (q v : ℕ) → Sound size regs memory → Sound size regs (slice_set memory q v)
sound_store size regs memory q v s = record { all = s.all; cells = length-set memory q v ∙ s.cells; zero_ = s.zero_ }

-- ---- one store

abbrev pub stored : State → ℕ → ℕ → State
stored s q v = record (moved s) { regs = s.regs; memory = slice_set s.memory q v; hi = s.hi; lo = s.lo }

store_is : (s : State) (addr v : ℕ) → (addr % 4 == 0) ≡ true → in_memory s addr ≡ true → store s addr v ≡ (stored s (place addr) v, None)
store_is s addr v e f = two_tests (addr % 4 == 0) (in_memory s addr) (ended (Exception 5 s.pc) s) (ended (Exception 7 s.pc) s) (stored s (place addr) v, None) e f

store_one : (text : List ℕ) (size k : ℕ) (from base : Role) (offset c : ℕ) (a : Sight) (t : Stream) (s : State) → RoleFits from → LeadsTo size a base offset c → Before text k 0 s →
    WordAt text k (Sw (reg_in t from) (reg_in t base) (off_in t offset)) → Sound size s.regs s.memory → Sees size t s.regs s.memory a → Leads machine (Good text) 1 s (stored s (4 * c + lane t) (a.file from))
store_one text size k from base offset c a t s fits le b w o e =
    let x : ℕ = reg_in t from in
    let i : Instr = Sw x (reg_in t base) (off_in t offset) in
    let here : plus (reg s (reg_in t base)) (extended (off_in t offset)) ≡ cell_of t c = ap (λ (z : ℕ). plus z (extended (off_in t offset))) (e.file base le.fits) ∙ le.at t in
    one_step text k 0 s (stored s (4 * c + lane t) (a.file from)) i b w
    (subst (λ (z : ℕ). OfStream x z) (sym here) (of_its_stream t from c fits))
    (step_is text k 0 s i b w (calm_here text k s i b) ∙
    (ap (λ (z : ℕ). store s z (reg s x)) here ∙
    (store_is s (cell_of t c) (reg s x) (aligned_by c (lane t)) (inside size t c s o.cells le.below) ∙
    (ap (λ (z : ℕ). let y : State × Option ℕ = (stored s z (reg s x), None) in y) (place_is t c) ∙
    ap (λ (z : ℕ). let y : State × Option ℕ = (stored s (4 * c + lane t) z, None) in y) (e.file from fits)))))
    b.open_

three_on : (k : ℕ) → suc (suc (suc k)) ≡ k + 3
three_on k = omega arith

abbrev pub stores : Role → Role → ℕ → List Instr
stores from base offset = each (λ t. Sw (reg_in t from) (reg_in t base) (off_in t offset))

does_stores : (text : List ℕ) (size : ℕ) (from base : Role) (offset c : ℕ) (a : Sight) → IsText text → RoleFits from → LeadsTo size a base offset c → Does text (Good text) size (stores from base offset) a (set_cell a c (a.file from))
does_stores text size from base offset c a t fits le k s h b d =
    let v : ℕ = a.file from in
    let f : Stream → Instr = λ t. Sw (reg_in t from) (reg_in t base) (off_in t offset) in
    let a' : Sight = set_cell a c v in
    let m1 : List ℕ = slice_set s.memory (4 * c + lane First) v in
    let s1 : State = stored s (4 * c + lane First) v in
    let b1 : Before text (suc k) 0 s1 = moves text k 0 s (f First) t h.0 b s.regs m1 s.hi s.lo in
    let o1 : Sound size s.regs m1 = sound_store size s.regs s.memory (4 * c + lane First) v d.sound in
    let p1 : Sees size First s.regs m1 a' = sees_store size First s.regs s.memory a c v le.below d.sound.cells (d.sees First) in
    let q1 : Sees size Second s.regs m1 a = sees_store_beside size Second First s.regs s.memory a c v refl (d.sees Second) in
    let r1 : Sees size Third s.regs m1 a = sees_store_beside size Third First s.regs s.memory a c v refl (d.sees Third) in
    let m2 : List ℕ = slice_set m1 (4 * c + lane Second) v in
    let s2 : State = stored s1 (4 * c + lane Second) v in
    let b2 : Before text (suc (suc k)) 0 s2 = moves text (suc k) 0 s1 (f Second) t h.1.0 b1 s.regs m2 s.hi s.lo in
    let o2 : Sound size s.regs m2 = sound_store size s.regs m1 (4 * c + lane Second) v o1 in
    let p2 : Sees size First s.regs m2 a' = sees_store_beside size First Second s.regs m1 a' c v refl p1 in
    let q2 : Sees size Second s.regs m2 a' = sees_store size Second s.regs m1 a c v le.below o1.cells q1 in
    let r2 : Sees size Third s.regs m2 a = sees_store_beside size Third Second s.regs m1 a c v refl r1 in
    let m3 : List ℕ = slice_set m2 (4 * c + lane Third) v in
    let s3 : State = stored s2 (4 * c + lane Third) v in
    record {
      now = s3;
      steps = 3;
      some = λ z. absurd (Rattle.std.proofs.Common.suc-ne-zero 2 z);
      leads = leads_on machine (Good text) 1 2 s s1 s3 (store_one text size k from base offset c a First s fits le b h.0 d.sound (d.sees First))
          (leads_on machine (Good text) 1 1 s1 s2 s3 (store_one text size (suc k) from base offset c a Second s1 fits le b1 h.1.0 o1 q1)
          (store_one text size (suc (suc k)) from base offset c a Third s2 fits le b2 h.1.1.0 o2 r2));
      before = subst (λ (z : ℕ). Before text z 0 s3) (three_on k) (moves text (suc (suc k)) 0 s2 (f Third) t h.1.1.0 b2 s.regs m3 s.hi s.lo);
      tripled = record {
        sound = sound_store size s.regs m2 (4 * c + lane Third) v o2;
        sees = elim [
          | First ↦ sees_store_beside size First Third s.regs m2 a' c v refl p2
          | Second ↦ sees_store_beside size Second Third s.regs m2 a' c v refl q2
          | Third ↦ sees_store size Third s.regs m2 a c v le.below o2.cells r2
        ];
        feed = d.feed;
        fed = d.fed;
        words = record {
          file = d.words.file;
          cell = λ q. elim (q == c) as (λ z. cond z v (a.cell q) < 2 ^ 32) [ true ↦ d.words.file from | false ↦ d.words.cell q ];
        };
      };
    }

pub does_store : (text : List ℕ) (size : ℕ) (from base : Role) (offset c : ℕ) (a : Sight) → IsText text → RoleFits from → LeadsTo size a base offset c → Does text (Good text) size (roles.store from base offset) a (set_cell a c (a.file from))
does_store text size from base offset c a t fits le =
    does_then text (Good text) size (vote from) (vote base ++ stores from base offset) a a (set_cell a c (a.file from)) (does_vote text size from a t fits)
    (does_then text (Good text) size (vote base) (stores from base offset) a a (set_cell a c (a.file from)) (does_vote text size base a t le.fits) (does_stores text size from base offset c a t fits le))
