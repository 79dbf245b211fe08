-- The typing of a text: which registers are of which stream, which words may follow a word, which registers are guarded by a
-- check, and from which stream HI and LO come. The notions are the project's own, after the article on EDDI.
use Rattle.std.specs.Prelude.{◌≡◌, ◌≤◌, ℕ, ◌+◌, ◌==◌, ◌&&◌, ◌||◌, nat_le, IsTrue, true, if◌then◌else◌, Option, Some, None, List, ◌⊎◌}
use Rattle.mips_isa.specs.declared.instr.Instr.{Instr}
use Rattle.mips_isa.specs.declared.instr.Instr.TheVariants.{J, Jal, Beq, Break}
use Rattle.mips_isa.specs.Machine.{reads_of, among, is_jump, is_product}
use Rattle.mips_text.specs.Text.{InText, At, Writes, BranchAt, SkipsReport, branch_goal, jump_goal, CheckWindow}
use Rattle.mips_text.specs.Blocks.{IsStart}

-- The three streams of registers: the computation, its copy, and the signatures of control flow.
pub data Role : Type 0 where
  master : Role
  shadow : Role
  signs : Role

-- The stream of a register: master 4 to 13, 29 and 31; shadow 14 to 23, 25 and 30; signatures 1, 24 and 28; the others have none.
abbrev pub role_of : ℕ → Option Role
role_of r =
    if (nat_le 4 r && nat_le r 13) || ((r == 29) || (r == 31)) then Some master else (
    if (nat_le 14 r && nat_le r 23) || ((r == 25) || (r == 30)) then Some shadow else (
    if (r == 1) || ((r == 24) || (r == 28)) then Some signs else
    None))

abbrev pub Of : Role → ℕ → Type 0
Of X r = role_of r ≡ Some X

-- A check compares a master and a shadow register, and skips a break 1.
pub record CheckAt (text : List ℕ) (c x y : ℕ) : Type 0 where
  pub compares : At text c (Beq x y 2)
  pub report : At text (c + 8) (Break 1)
  pub streams : (Of master x × Of shadow y) ⊎ (Of shadow x × Of master y)

-- A word stands in a delay slot.
pub record IsSlot (text : List ℕ) (a : ℕ) : Type 0 where
  pub jump_at : ℕ
  pub instr : Instr
  pub at : At text jump_at instr
  pub jumps : is_jump instr ≡ true
  pub behind : a ≡ jump_at + 4

-- The next words of a word: behind a delay slot the target of its j, jal or conditional branch, and of a conditional branch that
-- skips no report also the fall-through address; behind a delay slot of a jr, none; behind a break, none; else the word behind it.
pub data Next (text : List ℕ) (a b : ℕ) : Type 0 where
  onward : InText text a → (IsSlot text a → ⊥) → ((code : ℕ) → At text a (Break code) → ⊥) → b ≡ a + 4 → Next text a b
  jumped : (j target : ℕ) → InText text a → At text j (J target) → a ≡ j + 4 → b ≡ jump_goal j target → Next text a b
  called : (j target : ℕ) → InText text a → At text j (Jal target) → a ≡ j + 4 → b ≡ jump_goal j target → Next text a b
  taken : (j x y imm : ℕ) → InText text a → BranchAt text j x y imm → a ≡ j + 4 → b ≡ branch_goal j imm → Next text a b
  passed : (j x y imm : ℕ) → InText text a → BranchAt text j x y imm → (SkipsReport text j → ⊥) → a ≡ j + 4 → b ≡ j + 8 → Next text a b

-- One way leads from the word at c to the word at a: an ascending list of words in which each but the first is no start, has
-- the one listed before it as the only word before it, and none but the last writes the register.
pub data Path (text : List ℕ) (entry c r : ℕ) : ℕ → Type 0 where
  first : (a : ℕ) → a ≡ c → Path text entry c r a
  then : (a p : ℕ) → Path text entry c r p → p + 4 ≤ a → Next text p a → (IsStart text entry a → ⊥) → ((q : ℕ) → Next text q a → q ≡ p) →
      (Writes text p r → ⊥) → Path text entry c r a

-- A register is guarded at a word: the word is no start, is a window of a check of the register, and one way leads from that
-- check to it.
pub record IsGuarded (text : List ℕ) (entry a r : ℕ) : Type 0 where
  pub no_start : IsStart text entry a → ⊥
  pub c : ℕ
  pub x : ℕ
  pub y : ℕ
  pub check : CheckAt text c x y
  pub window : CheckWindow text c x y a r
  pub path : Path text entry c r a

-- A multiplication or division that reads a register of this stream and of no other.
pub record IsProductOf (X : Role) (i : Instr) : Type 0 where
  pub product : is_product i ≡ true
  pub some : ℕ
  pub reads_some : IsTrue (among some (reads_of i))
  pub of_stream : Of X some
  pub no_other : (r : ℕ) (Y : Role) → IsTrue (among r (reads_of i)) → Of Y r → Y ≡ X

-- HI and LO come from a stream at a word that is no start: there is a word before it, and each is a product of that stream.
pub record ProductsOf (text : List ℕ) (entry : ℕ) (X : Role) (a : ℕ) : Type 0 where
  pub no_start : IsStart text entry a → ⊥
  pub before : ℕ
  pub leads : Next text before a
  pub each : (p : ℕ) → Next text p a → (i : Instr) × (At text p i × IsProductOf X i)
