-- What it means that a text is a signed program laid out: the words of its blocks, heads first, one block behind the other.
use Rattle.std.specs.Prelude.{◌≡◌, ◌<◌, ℕ, ◌+◌, ◌*◌, ◌/◌, ◌%◌, ◌^◌, Some, List, length, slice_get, slice_index}
use Rattle.mips_isa.specs.declared.instr.Instr.{Instr}
use Rattle.mips_isa.specs.declared.instr.Instr.TheVariants.{J, Jal, Beq, Bne, Lui, Ori}
use Rattle.mips_text.specs.Text.{At, branch_goal, jump_goal}
use Rattle.hard_items.specs.declared.code.Fix.TheVariants.{Plain, Block, Function, ReturnHigh, ReturnLow}
use Rattle.hard_items.specs.declared.code.Item.{Item}
use Rattle.hard_items.specs.declared.code.HardProgram.{HardProgram}
use Rattle.hard_items.specs.declared.code.Signed.{Signed}
use Rattle.hard_items.specs.Run.{items_of}
use Rattle.hard_items.specs.Heads.{headed}

-- The instruction at an address is an item of a block with its field filled in: the way to a block or a function, or a half of the
-- address of the next block.
pub data IsFilled (p : HardProgram) (place : ℕ → ℕ) (b at : ℕ) (i : Item) (x : Instr) : Type 0 where
  as_is : i.fix ≡ Plain → x ≡ i.instr → IsFilled p place b at i x
  jump : (t z target : ℕ) → i.fix ≡ Block t → i.instr ≡ J z → x ≡ J target → jump_goal at target ≡ place t → IsFilled p place b at i x
  branch_eq : (t rs rt z imm : ℕ) → i.fix ≡ Block t → i.instr ≡ Beq rs rt z → x ≡ Beq rs rt imm → branch_goal at imm ≡ place t → IsFilled p place b at i x
  branch_ne : (t rs rt z imm : ℕ) → i.fix ≡ Block t → i.instr ≡ Bne rs rt z → x ≡ Bne rs rt imm → branch_goal at imm ≡ place t → IsFilled p place b at i x
  call : (f z target : ℕ) → i.fix ≡ Function f → i.instr ≡ Jal z → x ≡ Jal target → jump_goal at target ≡ place (slice_index p.entries f) → IsFilled p place b at i x
  high : (rt z : ℕ) → i.fix ≡ ReturnHigh → i.instr ≡ Lui rt z → x ≡ Lui rt (place (b + 1) / 2 ^ 16) → IsFilled p place b at i x
  low : (rt rs z : ℕ) → i.fix ≡ ReturnLow → i.instr ≡ Ori rt rs z → x ≡ Ori rt rs (place (b + 1) % 2 ^ 16) → IsFilled p place b at i x

-- The word of an item in a text.
pub record Stands (text : List ℕ) (p : HardProgram) (place : ℕ → ℕ) (b at : ℕ) (i : Item) : Type 0 where
  pub instr : Instr
  pub word : At text at instr
  pub filled : IsFilled p place b at i instr

-- The text is the program's, with the blocks at these places.
pub record IsLaidOut (s : Signed) (text : List ℕ) (place : ℕ → ℕ) : Type 0 where
  pub base : place 0 ≡ 0x00400000
  pub next : (b : ℕ) → b < length s.program.blocks → place (b + 1) ≡ place b + 4 * length (items_of (headed s) b)
  pub size : place (length s.program.blocks) ≡ 0x00400000 + 4 * length text
  pub word : (b k : ℕ) (i : Item) → b < length s.program.blocks → slice_get (items_of (headed s) b) k ≡ Some i → Stands text s.program place b (place b + 4 * k) i
