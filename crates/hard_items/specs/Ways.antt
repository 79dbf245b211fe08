-- The ways of a program of items: which blocks may come behind a block.
use Rattle.std.specs.Prelude.{◌≡◌, ◌<◌, ◌≤◌, ◌⊎◌, ℕ, ◌+◌, List, Option, Some, None, slice_get, Contains}
use Rattle.mips_isa.specs.declared.instr.Instr.TheVariants.{J, Jal, Jr, Beq, Bne}
use Rattle.hard_items.specs.declared.code.Fix.TheVariants.{Block, Function}
use Rattle.hard_items.specs.declared.code.Item.{Item}
use Rattle.hard_items.specs.declared.code.HardBlock.{HardBlock}
use Rattle.hard_items.specs.declared.code.HardProgram.{HardProgram}
use Rattle.hard_items.specs.Run.{items_of}

-- A block holds an item.
abbrev pub Holds : HardProgram → ℕ → Item → Type 0
Holds p b i = Contains (items_of p b) i

-- A block calls a function.
pub record CallsFunction (p : HardProgram) (b f : ℕ) : Type 0 where
  pub item : Item
  pub target : ℕ
  pub holds : Holds p b item
  pub jumps : item.instr ≡ Jal target
  pub names : item.fix ≡ Function f

-- Each function is called, or begins with the first block of the program.
abbrev pub EachCalled : HardProgram → Type 0
EachCalled p = (f e : ℕ) → slice_get p.entries f ≡ Some e → (e ≡ 0) ⊎ ((b : ℕ) × CallsFunction p b f)

-- A block is of a function: its entry is the greatest entry that isn't above the block.
pub record IsOfFunction (p : HardProgram) (b f : ℕ) : Type 0 where
  pub entry : ℕ
  pub is_entry : slice_get p.entries f ≡ Some entry
  pub not_above : entry ≤ b
  pub greatest : (g other : ℕ) → slice_get p.entries g ≡ Some other → other ≤ b → other ≤ entry

-- A block may come behind another: by a jump or a branch, by a call at the function's entry, behind a branch at the next block,
-- and behind a return wherever its function is called.
pub data MayFollow (p : HardProgram) (b : ℕ) : ℕ → Type 0 where
  jumped : (c target : ℕ) (i : Item) → Holds p b i → i.instr ≡ J target → i.fix ≡ Block c → MayFollow p b c
  branched_eq : (c rs rt imm : ℕ) (i : Item) → Holds p b i → i.instr ≡ Beq rs rt imm → i.fix ≡ Block c → MayFollow p b c
  branched_ne : (c rs rt imm : ℕ) (i : Item) → Holds p b i → i.instr ≡ Bne rs rt imm → i.fix ≡ Block c → MayFollow p b c
  fallen_eq : (c rs rt imm : ℕ) (i : Item) → Holds p b i → i.instr ≡ Beq rs rt imm → i.fix ≡ Block c → MayFollow p b (b + 1)
  fallen_ne : (c rs rt imm : ℕ) (i : Item) → Holds p b i → i.instr ≡ Bne rs rt imm → i.fix ≡ Block c → MayFollow p b (b + 1)
  called : (f c : ℕ) → CallsFunction p b f → slice_get p.entries f ≡ Some c → MayFollow p b c
  returned : (f caller rs : ℕ) (i : Item) → Holds p b i → i.instr ≡ Jr rs → IsOfFunction p b f → CallsFunction p caller f → MayFollow p b (caller + 1)
