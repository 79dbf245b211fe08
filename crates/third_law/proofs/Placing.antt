-- Good states are placed, and agree; and a run of the machine by steps is its run.
use Rattle.std.proofs.Common.{◌≡◌, ℕ, zero, suc, ◌+◌, ◌%◌, ap, refl, sym, ◌∙◌, subst, List, length, Bool, true, cond}
use Rattle.std.specs.Prelude.{Option, Some, None, slice_index, ◌==◌, ◌&&◌, nat_le, nat_lt}
use Rattle.std.proofs.lemmas.Option.{get_or_from_slice_get, slice_get_within}
use Rattle.hard_runs.specs.Stepping.{go, put}
use Rattle.mips_isa.specs.declared.instr.Instr.{Instr}
use Rattle.mips_isa.specs.declared.instr.Instr.TheVariants.{Jr, Jal, And, Lw, Sw}
use Rattle.mips_isa.specs.Machine.{State, step, reg, text_place}
use Rattle.mips_isa.specs.Table.{decoded}
use Rattle.mips_text.specs.Text.{At}
use Rattle.mips_isa.specs.Runs.{Ran, run, after_turn, turn}
use Rattle.third_law.specs.declared.roles.Stream.TheVariants.{First, Second}
use Rattle.third_law.specs.Roles.{reg_in}
use Rattle.third_law.specs.Law.{IsPlaced, Agrees}
use Rattle.third_law.proofs.Going.{machine, WordAt, address, aligned, from_start, number_is, below_is}
use Rattle.third_law.proofs.Voting.{GoodBy, Good}

-- ---- what stands at an address

all_true : {A : Type 0} (x y z : Bool) (u v : A) → x ≡ true → y ≡ true → z ≡ true → cond (x && (y && z)) u v ≡ u
all_true x y z u v e f g = rw (e, f, g) refl

pub word_at : (text : List ℕ) (k pc : ℕ) (i : Instr) → pc ≡ address k → WordAt text k i → At text pc i
word_at text k pc i e w =
    let place : text_place pc ≡ k = number_is pc k e in
    all_true (pc % 4 == 0) (nat_le 0x00400000 pc) (nat_lt (text_place pc) (length text)) (decoded (slice_index text (text_place pc))) None
    (aligned pc k e) (from_start pc k e) (ap (λ (n : ℕ). nat_lt n (length text)) place ∙ below_is (length text) k (slice_get_within text k w.0 w.1)) ∙
    (ap (λ (n : ℕ). decoded (slice_index text n)) place ∙ (ap (λ (n : ℕ). decoded n) (get_or_from_slice_get text k w.0 0 w.1) ∙ w.2))

some_same : {A : Type 0} (x y : A) → ◌≡◌ {A = Option A} (Some x) (Some y) → x ≡ y
some_same x y e = cc

-- the instruction that comes next is the one of which a good state tells
by_next : (text : List ℕ) (s : State) (i : Instr) → Good text s → At s.text s.pc i → GoodBy s i
by_next text s i g a =
    subst (λ (x : Instr). GoodBy s x) (some_same g.instr i (sym (subst (λ (l : List ℕ). At l s.pc g.instr) (sym g.same) (word_at text g.number s.pc g.instr g.here g.word)) ∙ a)) g.by

pub good_placed : (text : List ℕ) (s : State) → Good text s → IsPlaced s
good_placed text s g = record {
  loads = λ t r rs imm f a. by_next text s (Lw (reg_in t r) rs imm) g a t r f refl;
  stores = λ t r rs imm f a. by_next text s (Sw (reg_in t r) rs imm) g a t r f refl;
  returns = λ rs a. let x : (n to : ℕ) × WordAt s.text n (Jal to) × (reg s rs ≡ address n + 8) = by_next text s (Jr rs) g a in
      (address x.0, x.1, word_at s.text x.0 (address x.0) (Jal x.1) refl x.2, x.3);
  calm = g.calm;
}

pub good_agrees : (text : List ℕ) (s : State) → Good text s → Agrees s
good_agrees text s g r f a = by_next text s (And 1 (reg_in First r) (reg_in Second r)) g a refl r f refl refl

-- ---- runs

-- The run of the machine as one that goes by steps is its run without a change.
pub run_is : (s : State) (n : ℕ) → (run s None n).state ≡ (go machine s n).state
run_is s zero = refl
run_is s (suc n) = ap (λ (z : State). (step z).0) (run_is s n)

pub output_is : (s : State) (n : ℕ) → (run s None n).output ≡ (go machine s n).output
output_is s zero = refl
output_is s (suc n) = ap (λ (z : State). Rattle.mips_isa.specs.Runs.put_out (run s None n).output (step z).1) (run_is s n) ∙ same (run s None n).output (go machine s n).output (step (go machine s n).state).1 (output_is s n)
  where
    same : (a b : List ℕ) (o : Option ℕ) → a ≡ b → Rattle.mips_isa.specs.Runs.put_out a o ≡ put b o
    same a b None e = e
    same a b (Some w) e = ap (λ (l : List ℕ). Rattle.mips_isa.specs.Runs.put_out l (Some w)) e
