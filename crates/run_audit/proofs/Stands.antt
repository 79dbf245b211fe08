-- The test of a state's loads, stores and returns decides what a placed state asks for.
use Rattle.std.proofs.Common.{◌≡◌, ℕ, ◌+◌, ◌-◌, ◌*◌, ◌/◌, ◌%◌, ◌≤◌, arith, refl, sym, subst, List, length, get_or, false, true, Bool, inl, inr}
use Rattle.std.specs.Prelude.{Option, Some, None, ◌⊎◌, ◌==◌, ◌&&◌, ◌||◌, not, IsTrue}
use Rattle.hard_words.specs.Words.{extended}
use Rattle.mips_isa.specs.declared.instr.Instr.{Instr}
use Rattle.mips_isa.specs.declared.instr.Instr.TheVariants.{Jr, Lw, Sw}
use Rattle.mips_isa.specs.declared.instr.End.{End}
use Rattle.mips_isa.specs.declared.instr.End.TheVariants as ends
use Rattle.mips_isa.specs.Machine.{State, step, reg, plus, text_place}
use Rattle.mips_text.specs.Text.{InText, At, instr_at}
use Rattle.mips_text.specs.Blocks.{IsStart, HeadAt, Head}
use Rattle.mips_faults.specs.Faults.{in_even, in_odd, Moves, IsPlaced}
use Rattle.lint_words.specs.Words.{in_words}
use Rattle.lint_words.specs.Around.{starts_at}
use Rattle.harden_lint.specs.Rules.{WellTyped}
use Rattle.harden_lint.proofs.Places.{in_text}
use Rattle.harden_lint.proofs.StartTable.{in_words_text, text_in_words}
use Rattle.run_audit.specs.declared.turns.Turn.{Turn}
use Rattle.run_audit.specs.declared.turns.Turn.TheVariants as turns
use Rattle.run_audit.specs.Turns.{Bits, in_half, stands_by, stands, told_by}

-- halves
half_even : (e o : Bool) (x : ℕ) → ((not e || (x == 0)) && (not o || (x == 4))) ≡ true → IsTrue e → x ≡ 0
half_even e o x h k = grind arith

half_odd : (e o : Bool) (x : ℕ) → ((not e || (x == 0)) && (not o || (x == 4))) ≡ true → IsTrue o → x ≡ 4
half_odd e o x h k = grind arith

half_of : (e o : Bool) (x : ℕ) → (IsTrue e → x ≡ 0) → (IsTrue o → x ≡ 4) → ((not e || (x == 0)) && (not o || (x == 4))) ≡ true
half_of true true x f g = both x (f refl) (g refl)
  where
    both : (x : ℕ) → x ≡ 0 → x ≡ 4 → ((not true || (x == 0)) && (not true || (x == 4))) ≡ true
    both x a b = grind arith
half_of true false x f g = one x (f refl)
  where
    one : (x : ℕ) → x ≡ 0 → ((not true || (x == 0)) && (not false || (x == 4))) ≡ true
    one x a = grind arith
half_of false true x f g = one x (g refl)
  where
    one : (x : ℕ) → x ≡ 4 → ((not false || (x == 0)) && (not true || (x == 4))) ≡ true
    one x a = grind arith
half_of false false x f g = refl

and_left : (x y : Bool) → (x && y) ≡ true → x ≡ true
and_left x y h = grind arith

and_right : (x y : Bool) → (x && y) ≡ true → y ≡ true
and_right x y h = grind arith

and_both : (x y : Bool) → x ≡ true → y ≡ true → (x && y) ≡ true
and_both x y h k = grind arith

place_back : (a : ℕ) → a % 4 ≡ 0 → 0x00400000 ≤ a → 0x00400000 + 4 * ((a - 0x00400000) / 4) ≡ a
place_back a h k = omega arith

-- starts by the table
start_at : (text : List ℕ) (entry w : ℕ) (bits : List Bool) → Bits text (IsStart text entry) bits → starts_at bits w ≡ true → IsStart text entry w
start_at text entry w bits t h =
    let i : InText text w = in_words_text text (length bits) w t.len (and_left (in_words (length bits) w) (get_or bits (text_place w) false) h) in
    subst (IsStart text entry) (place_back w i.aligned i.from) (t.sound (text_place w) i.upto (and_right (in_words (length bits) w) (get_or bits (text_place w) false) h))

at_start : (text : List ℕ) (entry w : ℕ) (bits : List Bool) → WellTyped text entry → Bits text (IsStart text entry) bits → IsStart text entry w → starts_at bits w ≡ true
at_start text entry w bits y t s =
    let h : (h : Head) × HeadAt text w h = (y w).head s in
    let i : InText text w = in_text text w _ h.1.differs in
    and_both (in_words (length bits) w) (get_or bits (text_place w) false) (text_in_words text (length bits) w t.len i) (t.complete w s i)

-- from the test to the state
same_at : (s : State) (text : List ℕ) (i : Instr) → s.text ≡ text → At s.text s.pc i → instr_at text s.pc ≡ Some i
same_at s text i e h = subst (λ (x : List ℕ). instr_at x s.pc ≡ Some i) e h

here : (s : State) (text : List ℕ) (bits : List Bool) (i : Instr) → s.text ≡ text → stands text bits s ≡ true → At s.text s.pc i → stands_by (Some i) bits s ≡ true
here s text bits i e z h = subst (λ (o : Option Instr). stands_by o bits s ≡ true) (same_at s text i e h) z

half_here : (s : State) (text : List ℕ) (bits : List Bool) (rt rs imm : ℕ) → s.text ≡ text → stands text bits s ≡ true → Moves s rt rs imm → in_half rt (plus (reg s rs) (extended imm)) ≡ true
half_here s text bits rt rs imm e z (inl h) = here s text bits (Lw rt rs imm) e z h
half_here s text bits rt rs imm e z (inr h) = here s text bits (Sw rt rs imm) e z h

pub placed_of : (s : State) (text : List ℕ) (entry : ℕ) (bits : List Bool) → s.text ≡ text → Bits text (IsStart text entry) bits → stands text bits s ≡ true → ((code at : ℕ) → (step s).0.end ≡ Some (ends.Exception code at) → ⊥) → IsPlaced entry s
placed_of s text entry bits e t z n = record {
  even = λ rt rs imm m. half_even (in_even rt) (in_odd rt) (plus (reg s rs) (extended imm) % 8) (half_here s text bits rt rs imm e z m);
  odd = λ rt rs imm m. half_odd (in_even rt) (in_odd rt) (plus (reg s rs) (extended imm) % 8) (half_here s text bits rt rs imm e z m);
  returns = λ rs h. subst (λ (x : List ℕ). IsStart x entry (reg s rs)) (sym e) (start_at text entry (reg s rs) bits t (here s text bits (Jr rs) e z h));
  calm = n;
}

-- and back
stands_of : (s : State) (text : List ℕ) (entry : ℕ) (bits : List Bool) (o : Option Instr) → s.text ≡ text → WellTyped text entry → Bits text (IsStart text entry) bits → IsPlaced entry s → instr_at s.text s.pc ≡ o → stands_by o bits s ≡ true
stands_of s text entry bits (Some (Lw rt rs imm)) e y t p h = half_of (in_even rt) (in_odd rt) (plus (reg s rs) (extended imm) % 8) (p.even rt rs imm (inl h)) (p.odd rt rs imm (inl h))
stands_of s text entry bits (Some (Sw rt rs imm)) e y t p h = half_of (in_even rt) (in_odd rt) (plus (reg s rs) (extended imm) % 8) (p.even rt rs imm (inr h)) (p.odd rt rs imm (inr h))
stands_of s text entry bits (Some (Jr rs)) e y t p h = at_start text entry (reg s rs) bits y t (subst (λ (x : List ℕ). IsStart x entry (reg s rs)) e (p.returns rs h))
stands_of s text entry bits (Some _) e y t p h = refl
stands_of s text entry bits None e y t p h = refl

pub placed_stands : (s : State) (text : List ℕ) (entry : ℕ) (bits : List Bool) → s.text ≡ text → WellTyped text entry → Bits text (IsStart text entry) bits → IsPlaced entry s → stands text bits s ≡ true
placed_stands s text entry bits e y t p = subst (λ (x : List ℕ). stands_by (instr_at x s.pc) bits s ≡ true) e (stands_of s text entry bits (instr_at s.text s.pc) e y t p refl)

-- what a step tells
pub record IsClean (stood : Bool) (end : Option End) : Type 0 where
  pub held : stood ≡ true
  pub calm : (code at : ℕ) → end ≡ Some (ends.Exception code at) → ⊥
  pub silent : (code at : ℕ) → end ≡ Some (ends.Reported code at) → ⊥

pub record IsReport (stood : Bool) (end : Option End) : Type 0 where
  pub held : stood ≡ true
  pub calm : (code at : ℕ) → end ≡ Some (ends.Exception code at) → ⊥
  pub code : ℕ
  pub at : ℕ
  pub is : end ≡ Some (ends.Reported code at)

abbrev pub IsMisplaced : Bool → Option End → Type 0
IsMisplaced stood end = (stood ≡ false) ⊎ ((code : ℕ) × ((at : ℕ) × (end ≡ Some (ends.Exception code at))))

abbrev pub Meaning : Turn → Bool → Option End → Type 0
Meaning turns.Clean = IsClean
Meaning turns.Reported = IsReport
Meaning turns.Misplaced = IsMisplaced

meaning : (stood : Bool) (end : Option End) → Meaning (told_by stood end) stood end
meaning stood (Some (ends.Exception code at)) = inr (code, (at, refl))
meaning true (Some (ends.Reported code at)) = record { held = refl; calm = λ c a e. cc; code = code; at = at; is = refl }
meaning false (Some (ends.Reported code at)) = inl refl
meaning true None = record { held = refl; calm = λ c a e. cc; silent = λ c a e. cc }
meaning false None = inl refl
meaning true (Some (ends.Exited w)) = record { held = refl; calm = λ c a e. cc; silent = λ c a e. cc }
meaning false (Some (ends.Exited w)) = inl refl
meaning true (Some (ends.Trapped w)) = record { held = refl; calm = λ c a e. cc; silent = λ c a e. cc }
meaning false (Some (ends.Trapped w)) = inl refl
meaning true (Some ends.Starved) = record { held = refl; calm = λ c a e. cc; silent = λ c a e. cc }
meaning false (Some ends.Starved) = inl refl
meaning true (Some (ends.Hazard at)) = record { held = refl; calm = λ c a e. cc; silent = λ c a e. cc }
meaning false (Some (ends.Hazard at)) = inl refl

pub means : (stood : Bool) (end : Option End) (t : Turn) → t ≡ told_by stood end → Meaning t stood end
means stood end t e = subst (λ (x : Turn). Meaning x stood end) (sym e) (meaning stood end)
