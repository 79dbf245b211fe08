-- The machine at the words of some code: where it stands, what one word does, and code that leads on.
use Rattle.std.proofs.Common.{◌≡◌, ◌≤◌, ◌<◌, ℕ, zero, suc, ◌+◌, ◌-◌, ◌*◌, ◌/◌, ◌%◌, ◌^◌, arith, ap, refl, sym, ◌∙◌, subst, List, [], ◌∷◌, ◌++◌, length, length-append, Bool, true, false, cond, not}
use Rattle.std.specs.Prelude.{Option, Some, None, slice_get, slice_index, ◌==◌, ◌&&◌, ◌||◌, nat_le, nat_lt}
use Rattle.std.proofs.lemmas.Option.{get_or_from_slice_get, slice_get_within}
use Rattle.hard_runs.specs.Stepping.{Stepper, Leads}
use Rattle.hard_runs.proofs.Following.{leads_on}
use Rattle.mips_isa.specs.declared.instr.Instr.{Instr}
use Rattle.mips_isa.specs.declared.instr.Act.{Act}
use Rattle.mips_isa.specs.declared.instr.Act.TheVariants.{Stop}
use Rattle.mips_isa.specs.declared.instr.End.{End}
use Rattle.mips_isa.specs.declared.instr.End.TheVariants.{Exception, Hazard}
use Rattle.mips_isa.specs.Machine.{State, step, step_from, planned, row_act, act, perform, is_hazard, is_product, is_jump, among, reads_of, text_place, moved, plus}
use Rattle.mips_isa.specs.Table.{decoded}
use Rattle.mips_text.specs.Text.{IsText}
use Rattle.third_law.proofs.Sights.{Sight, Tripled}

-- The machine, as one that goes by steps.
abbrev pub machine : Stepper State End
machine = record { step = step; end = λ s. s.end }

-- ---- code in a text

-- This instruction has the word of this number.
abbrev pub WordAt : List ℕ → ℕ → Instr → Type 0
WordAt text k i = (w : ℕ) × (slice_get text k ≡ Some w) × (decoded w ≡ Some i)

-- These instructions have the words from this number on.
abbrev pub Stands : List ℕ → ℕ → List Instr → Type 0
Stands text k [] = Unit {0}
Stands text k (i ∷ is) = WordAt text k i × Stands text (suc k) is

-- The address of the word of a number.
abbrev pub address : ℕ → ℕ
address k = 0x00400000 + 4 * k

one_on : (k n : ℕ) → suc k + n ≡ k + suc n
one_on k n = omega arith

none_on : (k : ℕ) → k ≡ k + 0
none_on k = omega arith

pub stands_first : (text : List ℕ) (k : ℕ) (xs ys : List Instr) → Stands text k (xs ++ ys) → Stands text k xs
stands_first text k [] ys h = tt
stands_first text k (x ∷ xs) ys h = (h.0, stands_first text (suc k) xs ys h.1)

pub stands_rest : (text : List ℕ) (k : ℕ) (xs ys : List Instr) → Stands text k (xs ++ ys) → Stands text (k + length xs) ys
stands_rest text k [] ys h = subst (λ (z : ℕ). Stands text z ys) (none_on k) h
stands_rest text k (x ∷ xs) ys h = subst (λ (z : ℕ). Stands text z ys) (one_on k (length xs)) (stands_rest text (suc k) xs ys h.1)

-- ---- a state before a word

-- The machine stands before the word of a number, in no delay slot; what the last word loaded is this register, or 0.
pub record Before (text : List ℕ) (k loaded : ℕ) (s : State) : Type 0 where
  pub same : s.text ≡ text
  pub pc : s.pc ≡ address k
  pub npc : s.npc ≡ address (suc k)
  pub last : s.last_load ≡ loaded
  pub quiet : s.quiet ≡ 0
  pub slot : s.slot ≡ false
  pub open_ : s.end ≡ None

pub aligned : (pc k : ℕ) → pc ≡ 0x00400000 + 4 * k → (pc % 4 == 0) ≡ true
aligned pc k e = grind arith

pub from_start : (pc k : ℕ) → pc ≡ 0x00400000 + 4 * k → nat_le 0x00400000 pc ≡ true
from_start pc k e = grind arith

pub number_is : (pc k : ℕ) → pc ≡ 0x00400000 + 4 * k → (pc - 0x00400000) / 4 ≡ k
number_is pc k e = omega arith

pub below_is : (n k : ℕ) → k < n → nat_lt k n ≡ true
below_is n k h = grind arith

two_tests : {A : Type 0} (x y z : Bool) (u v w : A) → x ≡ true → y ≡ true → z ≡ true → cond (not x) u (cond (not (y && z)) v w) ≡ w
two_tests x y z u v w e f g = rw (e, f, g) refl

-- what a word does where no hazard stands, also in a delay slot
planned_at : (text : List ℕ) (k : ℕ) (s : State) (i : Instr) → s.text ≡ text → s.pc ≡ address k → WordAt text k i → is_hazard s i ≡ false → planned s ≡ act i s
planned_at text k s i same pc w h =
    let place : text_place s.pc ≡ k = number_is s.pc k pc in
    let there : k < length text = slice_get_within text k w.0 w.1 in
    two_tests (s.pc % 4 == 0) (nat_le 0x00400000 s.pc) (nat_lt (text_place s.pc) (length s.text)) (Stop (Exception 4 s.pc)) (Stop (Exception 6 s.pc)) (row_act s (decoded (slice_index s.text (text_place s.pc))))
    (aligned s.pc k pc) (from_start s.pc k pc) (ap (λ (n : ℕ). nat_lt n (length s.text)) place ∙ (ap (λ (l : List ℕ). nat_lt k (length l)) same ∙ below_is (length text) k there)) ∙
    (ap (λ (n : ℕ). row_act s (decoded (slice_index s.text n))) place ∙
    (ap (λ (l : List ℕ). row_act s (decoded (slice_index l k))) same ∙
    (ap (λ (n : ℕ). row_act s (decoded n)) (get_or_from_slice_get text k w.0 0 w.1) ∙
    (ap (λ (o : Option Instr). row_act s o) w.2 ∙
    ap (λ (z : Bool). cond z (Stop (Hazard s.pc)) (act i s)) h))))

pub step_at : (text : List ℕ) (k : ℕ) (s : State) (i : Instr) → s.text ≡ text → s.pc ≡ address k → s.end ≡ None → WordAt text k i → is_hazard s i ≡ false → step s ≡ perform (act i s) s
step_at text k s i same pc open_ w h = ap (λ (e : Option End). step_from s e) open_ ∙ ap (λ (a : Act). perform a s) (planned_at text k s i same pc w h)

pub step_is : (text : List ℕ) (k loaded : ℕ) (s : State) (i : Instr) → Before text k loaded s → WordAt text k i → is_hazard s i ≡ false → step s ≡ perform (act i s) s
step_is text k loaded s i b w h = step_at text k s i b.same b.pc b.open_ w h

and_none : (x : Bool) → (x && false) ≡ false
and_none true = refl
and_none false = refl

no_hazard : (x y : Bool) (l q : ℕ) (t : Bool) (r : Bool) → l ≡ 0 → q ≡ 0 → t ≡ false → ((not (l == 0) && r) || ((x && nat_lt 0 q) || (y && t))) ≡ false
no_hazard x y l q t r e f g = rw (e, f, g) (by x y)
  where
    by : (x y : Bool) → ((x && false) || (y && false)) ≡ false
    by true true = refl
    by true false = refl
    by false true = refl
    by false false = refl

-- behind no load nothing is a hazard
pub calm_here : (text : List ℕ) (k : ℕ) (s : State) (i : Instr) → Before text k 0 s → is_hazard s i ≡ false
calm_here text k s i b = no_hazard (is_product i) (is_jump i) s.last_load s.quiet s.slot (among s.last_load (reads_of i)) b.last b.quiet b.slot

-- ---- the next word

next_below : (text : List ℕ) (k w : ℕ) → IsText text → slice_get text k ≡ Some w → plus (address (suc k)) 4 ≡ address (suc (suc k))
next_below text k w t e = by k (length text) t (slice_get_within text k w e)
  where
    by : (k n : ℕ) → n ≤ 66060288 → k < n → (0x00400000 + 4 * suc k + 4) % 2 ^ 32 ≡ 0x00400000 + 4 * suc (suc k)
    by k n h l = omega arith

-- A state that went on to the next word and is in order, whatever it did to registers and memory.
pub moves : (text : List ℕ) (k loaded : ℕ) (s : State) (i : Instr) → IsText text → WordAt text k i → Before text k loaded s → (regs memory : List ℕ) (hi lo : ℕ) → Before text (suc k) 0 (record (moved s) { regs = regs; memory = memory; hi = hi; lo = lo })
moves text k loaded s i t w b regs memory hi lo = record {
  same = b.same;
  pc = b.npc;
  npc = ap (λ (n : ℕ). plus n 4) b.npc ∙ next_below text k w.0 t w.1;
  last = refl;
  quiet = ap (λ (n : ℕ). n - 1) b.quiet;
  slot = refl;
  open_ = b.open_;
}

-- ---- code that leads on

-- Some code leads, wherever it stands, from states of which the first sight is true to states of which the second is, and each state
-- on the way is good. It makes at least one step where there is a word.
pub record Done (text : List ℕ) (G : State → Type 0) (size k : ℕ) (code : List Instr) (s : State) (a : Sight) : Type 0 where
  pub now : State
  pub steps : ℕ
  pub some : steps ≡ 0 → code ≡ []
  pub leads : Leads machine G steps s now
  pub before : Before text (k + length code) 0 now
  pub tripled : Tripled size now a

abbrev pub Does : List ℕ → (State → Type 0) → ℕ → List Instr → Sight → Sight → Type 0
Does text G size code a a' = (k : ℕ) (s : State) → Stands text k code → Before text k 0 s → Tripled size s a → Done text G size k code s a'

zero_sum : (m n : ℕ) → m + n ≡ 0 → (m ≡ 0) × (n ≡ 0)
zero_sum m n h = (omega arith, omega arith)

nil_both : (xs ys : List Instr) → xs ≡ [] → ys ≡ [] → xs ++ ys ≡ []
nil_both xs ys e f = ap (λ (z : List Instr). z ++ ys) e ∙ f

re_placed : (text : List ℕ) (k m loaded : ℕ) (s : State) → k ≡ m → Before text k loaded s → Before text m loaded s
re_placed text k m loaded s e b = subst (λ (z : ℕ). Before text z loaded s) e b

-- Nothing leads nowhere.
pub does_nothing : (text : List ℕ) (G : State → Type 0) (size : ℕ) (a : Sight) → Does text G size [] a a
does_nothing text G size a k s h b t = record { now = s; steps = zero; some = λ e. refl; leads = refl; before = re_placed text k (k + 0) 0 s (none_on k) b; tripled = t }

-- One behind the other.
pub does_then : (text : List ℕ) (G : State → Type 0) (size : ℕ) (c e : List Instr) (a a' a'' : Sight) → Does text G size c a a' → Does text G size e a' a'' → Does text G size (c ++ e) a a''
does_then text G size c e a a' a'' f g k s h b t =
    let x : Done text G size k c s a' = f k s (stands_first text k c e h) b t in
    let y : Done text G size (k + length c) e x.now a'' = g (k + length c) x.now (stands_rest text k c e h) x.before x.tripled in
    record {
      now = y.now;
      steps = x.steps + y.steps;
      some = λ z. nil_both c e (x.some (zero_sum x.steps y.steps z).0) (y.some (zero_sum x.steps y.steps z).1);
      leads = leads_on machine G x.steps y.steps s x.now y.now x.leads y.leads;
      before = re_placed text (k + length c + length e) (k + length (c ++ e)) 0 y.now (plus_assoc k (length c) (length e) ∙ ap (λ (n : ℕ). k + n) (sym (length-append c e))) y.before;
      tripled = y.tripled;
    }
  where
    plus_assoc : (k m n : ℕ) → k + m + n ≡ k + (m + n)
    plus_assoc k m n = omega arith
