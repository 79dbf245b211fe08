-- The ten rules of the lint. Each says of an address what must hold there; a text is well typed where all hold everywhere, and
-- what is refused is the lowest address at which one is broken, with the lowest such rule. The rules are the project's own.
use Rattle.std.specs.Prelude.{◌≡◌, ◌≤◌, ◌<◌, ℕ, ◌+◌, ◌||◌, true, IsTrue, List, ◌⊎◌}
use Rattle.mips_isa.specs.declared.instr.Instr.{Instr}
use Rattle.mips_isa.specs.declared.instr.Instr.TheVariants.{Sll, Mfhi, Mflo, Lw, Sw}
use Rattle.mips_isa.specs.Machine.{among, is_jump, is_product}
use Rattle.mips_text.specs.Text.{InText, At, Reads, Uses, used_of, Critical}
use Rattle.mips_text.specs.Blocks.{IsStart, Head, HeadAt}
use Rattle.mips_faults.specs.Faults.{in_even, in_odd}
use Rattle.mips_text.specs.Typing.{Role, master, shadow, signs, Of, CheckAt, IsSlot, Next, IsGuarded, ProductsOf}
use Rattle.mips_text.specs.Forms.{OutputAt, ExitAt, InputAt, WordOf}

-- 1. A word of the text is an instruction.
abbrev pub HasInstruction : List ℕ → ℕ → Type 0
HasInstruction text a = InText text a → (i : Instr) × At text a i

-- 2. A start is in the text and has a head.
abbrev pub HasHead : List ℕ → ℕ → ℕ → Type 0
HasHead text entry a = IsStart text entry a → (h : Head) × HeadAt text a h

-- A word is one of the seven of the head of a start.
pub record InHead (text : List ℕ) (entry a : ℕ) : Type 0 where
  pub start : ℕ
  pub is : IsStart text entry start
  pub head : Head
  pub stands : HeadAt text start head
  pub from : start ≤ a
  pub upto : a ≤ start + 24

-- A word is a check.
pub record IsCheck (text : List ℕ) (a : ℕ) : Type 0 where
  pub x : ℕ
  pub y : ℕ
  pub check : CheckAt text a x y

-- All registers that an instruction uses, 0 and 2 aside, are of one stream.
pub record OneStream (i : Instr) : Type 0 where
  pub stream : Role
  pub all : (r : ℕ) → IsTrue (among r (used_of i)) → (r ≡ 0) ⊎ ((r ≡ 2) ⊎ Of stream r)

-- A register gets HI or LO of its own stream, master or shadow.
abbrev pub FromOwn : List ℕ → (entry a r : ℕ) → Type 0
FromOwn text entry a r = (Of master r × ProductsOf text entry master a) ⊎ (Of shadow r × ProductsOf text entry shadow a)

-- 3. A word other than a check and the words of heads uses registers of one stream, and no register without one, 0 and 2 aside;
-- a mfhi or mflo is into register 0, or into a register of the stream that HI and LO come from.
pub record KeepsStream (text : List ℕ) (entry a : ℕ) : Type 0 where
  pub one : (i : Instr) → At text a i → IsCheck text a ⊎ (InHead text entry a ⊎ OneStream i)
  pub halves : (rd : ℕ) → At text a (Mfhi rd) ⊎ At text a (Mflo rd) → (rd ≡ 0) ⊎ FromOwn text entry a rd

-- The syscall of an input.
pub record IsTaking (text : List ℕ) (a : ℕ) : Type 0 where
  pub c : ℕ
  pub input : InputAt text c
  pub at : a ≡ c + 4

-- 4. What a word reads in a critical way is guarded there, register 0 and register 4 at the syscall of an input aside.
abbrev pub IsChecked : List ℕ → ℕ → ℕ → Type 0
IsChecked text entry a = (r : ℕ) → Critical text a r → (r ≡ 0) ⊎ (IsGuarded text entry a r ⊎ IsTaking text a)

-- mfhi or mflo
abbrev pub MovesHalf : List ℕ → ℕ → Type 0
MovesHalf text a = (rd : ℕ) × (At text a (Mfhi rd) ⊎ At text a (Mflo rd))

-- 5. No next word of a load reads the register that it loads, register 0 aside; a multiplication or division is not among the next
-- words of a mfhi or mflo, nor among the next words of those; a branch or a jump stands in no delay slot.
pub record HasNoHazard (text : List ℕ) (a : ℕ) : Type 0 where
  pub loads : (rt rs imm b : ℕ) → At text a (Lw rt rs imm) → Next text a b → Reads text b rt → rt ≡ 0
  pub behind_move : (i : Instr) (p : ℕ) → At text a i → is_product i ≡ true → Next text p a → MovesHalf text p → ⊥
  pub behind_next : (i : Instr) (p q : ℕ) → At text a i → is_product i ≡ true → Next text p q → Next text q a → MovesHalf text p → ⊥
  pub jumps : (i : Instr) → At text a i → is_jump i ≡ true → IsSlot text a → ⊥

-- 6. The next words of a word are in the text.
abbrev pub GoesInside : List ℕ → ℕ → Type 0
GoesInside text a = (b : ℕ) → Next text a b → InText text b

-- 7. A lw or sw is of one of the registers 4 to 23, 25 and 31.
abbrev pub MovesHeld : List ℕ → ℕ → Type 0
MovesHeld text a = (rt rs imm : ℕ) → At text a (Lw rt rs imm) ⊎ At text a (Sw rt rs imm) → IsTrue (in_even rt || in_odd rt)

-- 8. Only words of heads use registers of the signatures.
abbrev pub KeepsSigns : List ℕ → ℕ → ℕ → Type 0
KeepsSigns text entry a = (r : ℕ) → Uses text a r → Of signs r → InHead text entry a

-- 9. A syscall, and any word that uses register 2, is of an output, an exit or an input; and a start is no word of one but the first.
pub record KeepsForms (text : List ℕ) (entry a : ℕ) : Type 0 where
  pub serves : Uses text a 2 → (k : ℕ) × WordOf text a k
  pub starts : IsStart text entry a → (k : ℕ) → WordOf text a k → k ≡ 0

-- The ori in the delay slot of an output's or an exit's check.
pub record IsChoosing (text : List ℕ) (a : ℕ) : Type 0 where
  pub c : ℕ
  pub form : OutputAt text c ⊎ ExitAt text c
  pub at : a ≡ c + 4

-- 10. A delay slot is in the text, is no start, and is a nop or the ori of an output or exit.
pub record KeepsSlot (text : List ℕ) (entry a : ℕ) : Type 0 where
  pub inside : IsSlot text a → InText text a
  pub no_start : IsSlot text a → IsStart text entry a → ⊥
  pub quiet : IsSlot text a → At text a (Sll 0 0 0) ⊎ IsChoosing text a

-- All ten rules hold at an address.
pub record Obeys (text : List ℕ) (entry a : ℕ) : Type 0 where
  pub instruction : HasInstruction text a
  pub head : HasHead text entry a
  pub stream : KeepsStream text entry a
  pub checked : IsChecked text entry a
  pub hazard : HasNoHazard text a
  pub inside : GoesInside text a
  pub held : MovesHeld text a
  pub signs : KeepsSigns text entry a
  pub forms : KeepsForms text entry a
  pub slot : KeepsSlot text entry a

-- The text is well typed.
abbrev pub WellTyped : List ℕ → ℕ → Type 0
WellTyped text entry = (a : ℕ) → Obeys text entry a

-- The rule of a number is broken at an address.
pub data Breaks (text : List ℕ) (entry a rule : ℕ) : Type 0 where
  no_instruction : rule ≡ 1 → (HasInstruction text a → ⊥) → Breaks text entry a rule
  no_head : rule ≡ 2 → (HasHead text entry a → ⊥) → Breaks text entry a rule
  mixed : rule ≡ 3 → (KeepsStream text entry a → ⊥) → Breaks text entry a rule
  unchecked : rule ≡ 4 → (IsChecked text entry a → ⊥) → Breaks text entry a rule
  hazard : rule ≡ 5 → (HasNoHazard text a → ⊥) → Breaks text entry a rule
  outside : rule ≡ 6 → (GoesInside text a → ⊥) → Breaks text entry a rule
  unheld : rule ≡ 7 → (MovesHeld text a → ⊥) → Breaks text entry a rule
  stray_sign : rule ≡ 8 → (KeepsSigns text entry a → ⊥) → Breaks text entry a rule
  stray_service : rule ≡ 9 → (KeepsForms text entry a → ⊥) → Breaks text entry a rule
  bad_slot : rule ≡ 10 → (KeepsSlot text entry a → ⊥) → Breaks text entry a rule

-- What a refusal names: a broken rule, at the lowest address at which any is broken, and the lowest there.
pub record BadAt (text : List ℕ) (entry address rule : ℕ) : Type 0 where
  pub broken : Breaks text entry address rule
  pub lowest : (a r : ℕ) → Breaks text entry a r → (address < a) ⊎ ((a ≡ address) × (rule ≤ r))
