-- A load in all streams.
use Rattle.std.proofs.Common.{◌≡◌, ◌≢◌, ◌≤◌, ◌<◌, ℕ, zero, suc, ◌+◌, ◌-◌, ◌*◌, ◌/◌, ◌%◌, ◌^◌, arith, ap, refl, sym, ◌∙◌, subst, List, [], ◌∷◌, ◌++◌, length, get_or, Bool, true, false, cond, not, inl, inr}
use Rattle.std.specs.Prelude.{Option, Some, None, slice_index, ◌==◌, ◌&&◌, ◌||◌, nat_le, nat_lt}
use Rattle.hard_words.specs.Words.{extended}
use Rattle.hard_runs.specs.Stepping.{Leads}
use Rattle.hard_runs.proofs.Following.{leads_on}
use Rattle.mips_isa.specs.declared.instr.Instr.{Instr}
use Rattle.mips_isa.specs.declared.instr.Instr.TheVariants.{Lw}
use Rattle.mips_isa.specs.declared.instr.End.TheVariants.{Exception}
use Rattle.mips_isa.specs.Machine.{State, step, reg, moved, written, plus, place, in_memory, load, ended, is_hazard}
use Rattle.mips_text.specs.Text.{IsText}
use Rattle.third_law.specs.declared.roles.Stream.{Stream}
use Rattle.third_law.specs.declared.roles.Stream.TheVariants.{First, Second, Third}
use Rattle.third_law.specs.declared.roles.Role.{Role}
use Rattle.third_law.specs.Roles as roles
use Rattle.third_law.specs.Roles.{RoleFits, reg_in, off_in, nop, each, vote}
use Rattle.third_law.specs.Law.{of_stream}
use Rattle.third_law.proofs.Sights.{Sight, Sees, Sound, lane, put, same_stream, same_stream_is, streams_apart, reg_not_zero, sees_write, sees_beside, sound_write, words_put}
use Rattle.third_law.proofs.Going.{machine, WordAt, Before, step_is, calm_here, moves, Does, does_then}
use Rattle.third_law.proofs.Voting.{OfStream, GoodBy, Good, wrote, does_vote}

-- ---- addresses of cells

abbrev pub cell_of : Stream → ℕ → ℕ
cell_of t c = 0x10010000 + (16 * c + 4 * lane t)

place_by : (c h : ℕ) → (0x10010000 + (16 * c + 4 * h) - 0x10010000) / 4 ≡ 4 * c + h
place_by c h = omega arith

pub place_is : (t : Stream) (c : ℕ) → place (cell_of t c) ≡ 4 * c + lane t
place_is t c = place_by c (lane t)

pub aligned_by : (c h : ℕ) → ((0x10010000 + (16 * c + 4 * h)) % 4 == 0) ≡ true
aligned_by c h = grind arith

pub lane_fits : (t : Stream) → lane t ≤ 2
lane_fits First = omega arith
lane_fits Second = omega arith
lane_fits Third = omega arith

both_true : (x y : Bool) → x ≡ true → y ≡ true → (x && y) ≡ true
both_true x y e f = rw (e, f) refl

inside_by : (c h size n : ℕ) → n ≡ 4 * size → c < size → h ≤ 2 → nat_lt ((0x10010000 + (16 * c + 4 * h) - 0x10010000) / 4) n ≡ true
inside_by c h size n e k l = rw place_by (low (4 * c + h) n (omega arith))
  where
    low : (x n : ℕ) → x < n → nat_lt x n ≡ true
    low x n h = grind arith

start_by : (x : ℕ) → nat_le 0x10010000 (0x10010000 + x) ≡ true
start_by x = grind arith

pub inside : (size : ℕ) (t : Stream) (c : ℕ) (s : State) → length s.memory ≡ 4 * size → c < size → in_memory s (cell_of t c) ≡ true
inside size t c s e k = both_true (nat_le 0x10010000 (cell_of t c)) (nat_lt (place (cell_of t c)) (length s.memory)) (start_by (16 * c + 4 * lane t)) (inside_by c (lane t) size (length s.memory) e k (lane_fits t))

in_lane : (c h : ℕ) → h ≤ 2 → (0x10010000 + (16 * c + 4 * h)) % 16 ≡ 4 * h
in_lane c h k = omega arith

lane_is : (t : Stream) → 4 * lane t ≡ of_stream t
lane_is First = refl
lane_is Second = refl
lane_is Third = refl

-- A register of a stream goes to and from addresses of that stream.
pub of_its_stream : (t : Stream) (r : Role) (c : ℕ) → RoleFits r → OfStream (reg_in t r) (cell_of t c)
of_its_stream t r c f u q g e = elim (same_stream t u) as (λ z. same_stream t u ≡ z → cell_of t c % 16 ≡ of_stream u) [
  | true ↦ λ h. subst (λ (x : Stream). cell_of t c % 16 ≡ of_stream x) (same_stream_is t u h) (in_lane c (lane t) (lane_fits t) ∙ lane_is t)
  | false ↦ λ h. absurd (streams_apart t u r q f g h e)
] refl

-- Where the base leads, in each stream, to a cell.
pub record LeadsTo (size : ℕ) (a : Sight) (base : Role) (offset c : ℕ) : Type 0 where
  pub fits : RoleFits base
  pub below : c < size
  pub at : (t : Stream) → plus (a.file base) (extended (off_in t offset)) ≡ cell_of t c

-- ---- one load

pub two_tests : {A : Type 0} (x y : Bool) (u v w : A) → x ≡ true → y ≡ true → cond (not x) u (cond (not y) v w) ≡ w
two_tests x y u v w e f = rw (e, f) refl

abbrev pub loaded : State → ℕ → ℕ → State
loaded s x v = record (moved s) { regs = written s.regs x v; memory = s.memory; hi = s.hi; lo = s.lo; last_load = x }

pub load_is : (s : State) (x addr : ℕ) → (addr % 4 == 0) ≡ true → in_memory s addr ≡ true → load s x addr ≡ (loaded s x (slice_index s.memory (place addr)), None)
load_is s x addr e f = two_tests (addr % 4 == 0) (in_memory s addr) (ended (Exception 4 s.pc) s) (ended (Exception 7 s.pc) s) (loaded s x (slice_index s.memory (place addr)), None) e f

pub none_some : {A : Type 0} (x : A) (o : Option A) → o ≡ None → o ≡ Some x → ⊥
none_some x o e f = cc

loaded_on : (text : List ℕ) (k l : ℕ) (s : State) (i : Instr) (x v : ℕ) → IsText text → WordAt text k i → Before text k l s → Before text (suc k) x (loaded s x v)
loaded_on text k l s i x v t w b = let m : Before text (suc k) 0 (wrote s x v) = moves text k l s i t w b (written s.regs x v) s.memory s.hi s.lo in
    record { same = m.same; pc = m.pc; npc = m.npc; last = refl; quiet = m.quiet; slot = refl; open_ = m.open_ }

-- a step whose outcome is known
pub one_step : (text : List ℕ) (k l : ℕ) (s now : State) (i : Instr) → Before text k l s → WordAt text k i → GoodBy s i → step s ≡ (now, None) → now.end ≡ None → Leads machine (Good text) 1 s now
one_step text k l s now i b w g q o = (
  record {
    open_ = b.open_;
    good = record {
      same = b.same;
      number = k;
      instr = i;
      word = w;
      here = b.pc;
      by = g;
      calm = λ code at h. none_some (Exception code at) (step s).0.end (ap (λ (z : State × Option ℕ). z.0.end) q ∙ o) h;
    };
    silent = ap (λ (z : State × Option ℕ). z.1) q;
  },
  ap (λ (z : State × Option ℕ). z.0) q,
)

load_one : (text : List ℕ) (size k l : ℕ) (to base : Role) (offset c : ℕ) (a : Sight) (t : Stream) (s : State) → RoleFits to → LeadsTo size a base offset c → Before text k l s →
    WordAt text k (Lw (reg_in t to) (reg_in t base) (off_in t offset)) → is_hazard s (Lw (reg_in t to) (reg_in t base) (off_in t offset)) ≡ false → Sound size s.regs s.memory → Sees size t s.regs s.memory a →
    Leads machine (Good text) 1 s (loaded s (reg_in t to) (a.cell c))
load_one text size k l to base offset c a t s fits le b w h o e =
    let x : ℕ = reg_in t to in
    let i : Instr = Lw x (reg_in t base) (off_in t offset) in
    let here : plus (reg s (reg_in t base)) (extended (off_in t offset)) ≡ cell_of t c = ap (λ (z : ℕ). plus z (extended (off_in t offset))) (e.file base le.fits) ∙ le.at t in
    let word : slice_index s.memory (place (cell_of t c)) ≡ a.cell c = ap (λ (z : ℕ). slice_index s.memory z) (place_is t c) ∙ e.cell c le.below in
    one_step text k l s (loaded s x (a.cell c)) i b w
    (subst (λ (z : ℕ). OfStream x z) (sym here) (of_its_stream t to c fits))
    (step_is text k l s i b w h ∙
    (ap (λ (z : ℕ). load s x z) here ∙
    (load_is s x (cell_of t c) (aligned_by c (lane t)) (inside size t c s o.cells le.below) ∙
    ap (λ (z : ℕ). let y : State × Option ℕ = (loaded s x z, None) in y) word)))
    b.open_

-- behind a load, a word that reads one other register
read_calm : (x y : ℕ) (p q : Bool) → x ≢ y → ((not (x == 0) && ((x == y) || false)) || ((false && p) || (false && q))) ≡ false
read_calm x y p q h = by (x == y) (not (x == 0)) (differ x y h)
  where
    differ : (x y : ℕ) → x ≢ y → (x == y) ≡ false
    differ x y h = grind arith

    by : (e n : Bool) → e ≡ false → ((n && (e || false)) || ((false && p) || (false && q))) ≡ false
    by e true g = rw g refl
    by e false g = refl

lw_calm : (s : State) (rt rs imm x : ℕ) → s.last_load ≡ x → x ≢ rs → is_hazard s (Lw rt rs imm) ≡ false
lw_calm s rt rs imm x e h = read_calm s.last_load rs (nat_lt 0 s.quiet) s.slot (λ g. h (sym e ∙ g))

nop_calm : (s : State) (x : ℕ) → s.last_load ≡ x → x ≢ 0 → is_hazard s nop ≡ false
nop_calm s x e h = read_calm s.last_load 0 (nat_lt 0 s.quiet) s.slot (λ g. h (sym e ∙ g))

four_on : (k : ℕ) → suc (suc (suc (suc k))) ≡ k + 4
four_on k = omega arith

abbrev pub loads : Role → Role → ℕ → List Instr
loads to base offset = each (λ t. Lw (reg_in t to) (reg_in t base) (off_in t offset)) ++ nop ∷ []

does_loads : (text : List ℕ) (size : ℕ) (to base : Role) (offset c : ℕ) (a : Sight) → IsText text → RoleFits to → LeadsTo size a base offset c → Does text (Good text) size (loads to base offset) a (put a to (a.cell c))
does_loads text size to base offset c a t fits le k s h b d =
    let v : ℕ = a.cell c in
    let f : Stream → Instr = λ t. Lw (reg_in t to) (reg_in t base) (off_in t offset) in
    let x : (u : Stream) → reg_in u to ≢ 0 = λ u. reg_not_zero u to in
    let s1 : State = loaded s (reg_in First to) v in
    let b1 : Before text (suc k) (reg_in First to) s1 = loaded_on text k 0 s (f First) (reg_in First to) v t h.0 b in
    let o1 : Sound size s1.regs s1.memory = sound_write size s.regs s.memory (reg_in First to) v (x First) d.sound in
    let p1 : Sees size First s1.regs s1.memory (put a to v) = sees_write size First s.regs s.memory a to v fits d.sound (d.sees First) in
    let q1 : Sees size Second s1.regs s1.memory a = sees_beside size Second First s.regs s.memory a to v fits refl (d.sees Second) in
    let r1 : Sees size Third s1.regs s1.memory a = sees_beside size Third First s.regs s.memory a to v fits refl (d.sees Third) in
    let s2 : State = loaded s1 (reg_in Second to) v in
    let b2 : Before text (suc (suc k)) (reg_in Second to) s2 = loaded_on text (suc k) (reg_in First to) s1 (f Second) (reg_in Second to) v t h.1.0 b1 in
    let o2 : Sound size s2.regs s2.memory = sound_write size s1.regs s1.memory (reg_in Second to) v (x Second) o1 in
    let p2 : Sees size First s2.regs s2.memory (put a to v) = sees_beside size First Second s1.regs s1.memory (put a to v) to v fits refl p1 in
    let q2 : Sees size Second s2.regs s2.memory (put a to v) = sees_write size Second s1.regs s1.memory a to v fits o1 q1 in
    let r2 : Sees size Third s2.regs s2.memory a = sees_beside size Third Second s1.regs s1.memory a to v fits refl r1 in
    let s3 : State = loaded s2 (reg_in Third to) v in
    let b3 : Before text (suc (suc (suc k))) (reg_in Third to) s3 = loaded_on text (suc (suc k)) (reg_in Second to) s2 (f Third) (reg_in Third to) v t h.1.1.0 b2 in
    let n : ℕ = (reg s3 0 * 2 ^ 0) % 2 ^ 32 in
    let s4 : State = wrote s3 0 n in
    let calm4 : is_hazard s3 nop ≡ false = nop_calm s3 (reg_in Third to) refl (x Third) in
    record {
      now = s4;
      steps = 4;
      some = λ z. absurd (Rattle.std.proofs.Common.suc-ne-zero 3 z);
      leads = leads_on machine (Good text) 1 3 s s1 s4 (load_one text size k 0 to base offset c a First s fits le b h.0 (calm_here text k s (f First) b) d.sound (d.sees First))
          (leads_on machine (Good text) 1 2 s1 s2 s4 (load_one text size (suc k) (reg_in First to) to base offset c a Second s1 fits le b1 h.1.0
          (lw_calm s1 (reg_in Second to) (reg_in Second base) (off_in Second offset) (reg_in First to) refl (streams_apart First Second to base fits le.fits refl)) o1 q1)
          (leads_on machine (Good text) 1 1 s2 s3 s4 (load_one text size (suc (suc k)) (reg_in Second to) to base offset c a Third s2 fits le b2 h.1.1.0
          (lw_calm s2 (reg_in Third to) (reg_in Third base) (off_in Third offset) (reg_in Second to) refl (streams_apart Second Third to base fits le.fits refl)) o2 r2)
          (one_step text (suc (suc (suc k))) (reg_in Third to) s3 s4 nop b3 h.1.1.1.0 tt (step_is text (suc (suc (suc k))) (reg_in Third to) s3 nop b3 h.1.1.1.0 calm4) b3.open_)));
      before = subst (λ (z : ℕ). Before text z 0 s4) (four_on k) (moves text (suc (suc (suc k))) (reg_in Third to) s3 nop t h.1.1.1.0 b3 s3.regs s3.memory s3.hi s3.lo);
      tripled = record {
        sound = sound_write size s2.regs s2.memory (reg_in Third to) v (x Third) o2;
        sees = elim [
          | First ↦ sees_beside size First Third s2.regs s2.memory (put a to v) to v fits refl p2
          | Second ↦ sees_beside size Second Third s2.regs s2.memory (put a to v) to v fits refl q2
          | Third ↦ sees_write size Third s2.regs s2.memory a to v fits o2 r2
        ];
        feed = d.feed;
        fed = d.fed;
        words = words_put a to v (d.words.cell c) d.words;
      };
    }

pub does_load : (text : List ℕ) (size : ℕ) (to base : Role) (offset c : ℕ) (a : Sight) → IsText text → RoleFits to → LeadsTo size a base offset c → Does text (Good text) size (roles.load to base offset) a (put a to (a.cell c))
does_load text size to base offset c a t fits le = does_then text (Good text) size (vote base) (loads to base offset) a a (put a to (a.cell c)) (does_vote text size base a t le.fits) (does_loads text size to base offset c a t fits le)
