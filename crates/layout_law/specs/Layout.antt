-- The words of a program of items: the addresses of blocks, the fields that the layout fills, and the text.
-- The text stands at 0x00400000; the fields are those of Kane and Heinrich, MIPS RISC Architecture, appendix A.
use Rattle.std.specs.Prelude.{◌≤◌, ◌<◌, ℕ, ◌+◌, ◌-◌, ◌*◌, ◌/◌, ◌%◌, ◌^◌, if◌then◌else◌, nat_le, List, [], ◌∷◌, ◌++◌, length, map, sum_by, take}
use Rattle.std.specs.List.{range_with_len}
use Rattle.mips_isa.specs.declared.instr.Instr.{Instr}
use Rattle.mips_isa.specs.declared.instr.Instr.TheVariants.{J, Jal, Beq, Bne, Lui, Ori}
use Rattle.mips_isa.specs.Table.{encoding}
use Rattle.mips_isa.specs.Image.{ImageFields}
use Rattle.hard_items.specs.declared.code.Fix.{Fix}
use Rattle.hard_items.specs.declared.code.Fix.TheVariants.{Block, Function, ReturnHigh, ReturnLow}
use Rattle.hard_items.specs.declared.code.Item.{Item}
use Rattle.hard_items.specs.declared.code.HardBlock.{HardBlock}
use Rattle.hard_items.specs.declared.code.HardProgram.{HardProgram}
use Rattle.hard_items.specs.declared.code.Signed.{Signed}
use Rattle.hard_items.specs.Heads.{headed}
use Rattle.hard_items.specs.Run.{named}

-- How many words blocks take: one for each item.
abbrev pub words : List HardBlock → ℕ
words blocks = sum_by (λ k. length k.items) blocks

-- The address of a block's first word; of the number behind the last block, the end of the text.
abbrev pub address : HardProgram → ℕ → ℕ
address p b = 0x00400000 + 4 * words (take b p.blocks)

-- The address of each block, in their order.
abbrev pub addresses : HardProgram → List ℕ
addresses p = map (address p) (range_with_len 0 (length p.blocks))

-- The offset of a branch, in words, from the address of its delay slot to its target, in two's complement of 16 bits.
abbrev pub offset : ℕ → ℕ → ℕ
offset from to = if nat_le from to then (to - from) / 4 else 2 ^ 16 - (from - to) / 4

-- The target is within reach of a branch with its delay slot here.
pub record Reaches (from to : ℕ) : Type 0 where
  pub ahead : from ≤ to → (to - from) / 4 < 2 ^ 15
  pub back : to ≤ from → (from - to) / 4 ≤ 2 ^ 15

-- What the layout puts into a field, where the item stands at an address, its field leads to an address, and the next block
-- stands at a third: the target of a jump, the offset of a branch, a half of the address behind a call's delay slot.
abbrev pub filled_with : (at to back : ℕ) → Fix → Instr → Instr
filled_with at to back (Block t) (J target) = J (to / 4)
filled_with at to back (Block t) (Beq rs rt imm) = Beq rs rt (offset (at + 4) to)
filled_with at to back (Block t) (Bne rs rt imm) = Bne rs rt (offset (at + 4) to)
filled_with at to back (Function f) (Jal target) = Jal (to / 4)
filled_with at to back ReturnHigh (Lui rt imm) = Lui rt (back / 2 ^ 16)
filled_with at to back ReturnLow (Ori rt rs imm) = Ori rt rs (back % 2 ^ 16)
filled_with at to back fix i = i

-- The instruction of an item of block b at an address.
abbrev pub filled : HardProgram → (b at : ℕ) → Fix → Instr → Instr
filled p b at fix i = filled_with at (address p (named p fix)) (address p (b + 1)) fix i

-- The words of items that stand from an address on.
abbrev pub items_words : HardProgram → (b at : ℕ) → List Item → List ℕ
items_words p b at [] = []
items_words p b at (i ∷ more) = encoding (filled p b at i.fix i.instr) ∷ items_words p b (at + 4) more

-- The words of blocks that stand from a block and its address on.
abbrev pub blocks_words : HardProgram → (b at : ℕ) → List HardBlock → List ℕ
blocks_words p b at [] = []
blocks_words p b at (k ∷ more) = items_words p b at k.items ++ blocks_words p (b + 1) (at + 4 * length k.items) more

-- The text of a program.
abbrev pub text : HardProgram → List ℕ
text p = blocks_words p 0 0x00400000 p.blocks

-- The text of a signed program: the words of the heads before those of the items.
abbrev pub signed_text : Signed → List ℕ
signed_text s = text (headed s)

-- The image in which the words run: the entry is the first block.
abbrev pub image : HardProgram → ImageFields
image p = record { entry = 0x00400000; text = text p; initial = p.initial; memory_words = p.memory_words; windows = []; aliases = [] }
