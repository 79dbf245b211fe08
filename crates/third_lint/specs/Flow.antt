-- The ways between the words of a text, and what must hold of each word whatever the registers are for. The notions are the
-- project's own.
use Rattle.std.specs.Prelude.{◌≡◌, ℕ, ◌+◌, true, List, ◌⊎◌}
use Rattle.mips_isa.specs.declared.instr.Instr.{Instr}
use Rattle.mips_isa.specs.declared.instr.Instr.TheVariants.{J, Jal, Break, Mfhi, Mflo, Lw}
use Rattle.mips_isa.specs.Machine.{is_jump, is_product}
use Rattle.mips_text.specs.Text.{InText, At, Reads, BranchAt, SkipsReport, branch_goal, jump_goal}

-- A word stands in a delay slot.
pub record IsSlot (text : List ℕ) (a : ℕ) : Type 0 where
  pub jump_at : ℕ
  pub instr : Instr
  pub at : At text jump_at instr
  pub jumps : is_jump instr ≡ true
  pub behind : a ≡ jump_at + 4

-- The next words of a word: behind a delay slot the target of its j, jal or conditional branch, and of a conditional branch that
-- skips no report also the fall-through address; behind a delay slot of a jr, none; behind a break, none; else the word behind it.
pub data Next (text : List ℕ) (a b : ℕ) : Type 0 where
  onward : InText text a → (IsSlot text a → ⊥) → ((code : ℕ) → At text a (Break code) → ⊥) → b ≡ a + 4 → Next text a b
  jumped : (j target : ℕ) → InText text a → At text j (J target) → a ≡ j + 4 → b ≡ jump_goal j target → Next text a b
  called : (j target : ℕ) → InText text a → At text j (Jal target) → a ≡ j + 4 → b ≡ jump_goal j target → Next text a b
  taken : (j x y imm : ℕ) → InText text a → BranchAt text j x y imm → a ≡ j + 4 → b ≡ branch_goal j imm → Next text a b
  passed : (j x y imm : ℕ) → InText text a → BranchAt text j x y imm → (SkipsReport text j → ⊥) → a ≡ j + 4 → b ≡ j + 8 → Next text a b

-- A word of the text is an instruction.
abbrev pub HasInstruction : List ℕ → ℕ → Type 0
HasInstruction text a = InText text a → (i : Instr) × At text a i

-- mfhi or mflo
abbrev pub MovesHalf : List ℕ → ℕ → Type 0
MovesHalf text a = (rd : ℕ) × (At text a (Mfhi rd) ⊎ At text a (Mflo rd))

-- No next word of a load reads the register that it loads, register 0 aside; a multiplication or division is not among the next
-- words of a mfhi or mflo, nor among the next words of those; a branch or a jump stands in no delay slot.
pub record HasNoHazard (text : List ℕ) (a : ℕ) : Type 0 where
  pub loads : (rt rs imm b : ℕ) → At text a (Lw rt rs imm) → Next text a b → Reads text b rt → rt ≡ 0
  pub behind_move : (i : Instr) (p : ℕ) → At text a i → is_product i ≡ true → Next text p a → MovesHalf text p → ⊥
  pub behind_next : (i : Instr) (p q : ℕ) → At text a i → is_product i ≡ true → Next text p q → Next text q a → MovesHalf text p → ⊥
  pub jumps : (i : Instr) → At text a i → is_jump i ≡ true → IsSlot text a → ⊥

-- The next words of a word are in the text.
abbrev pub GoesInside : List ℕ → ℕ → Type 0
GoesInside text a = (b : ℕ) → Next text a b → InText text b
