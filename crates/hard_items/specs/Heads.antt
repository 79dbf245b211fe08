-- Heads: the seven words with which each block of a signed program begins, and its run with them.
use Rattle.std.specs.Prelude.{ℕ, Bool, true, false, Option, Some, None, List, [], ◌∷◌, ◌++◌, length, slice_get, if◌then◌else◌}
use Rattle.hard_runs.specs.Observed.{Observation}
use Rattle.mips_isa.specs.declared.instr.Instr.{Instr}
use Rattle.mips_isa.specs.declared.instr.Instr.TheVariants.{Xori, Xor, Ori, Beq, Break, Sll}
use Rattle.mips_isa.specs.declared.instr.End.{End}
use Rattle.hard_items.specs.declared.code.Class.TheVariants.{Head}
use Rattle.hard_items.specs.declared.code.Item.{Item}
use Rattle.hard_items.specs.declared.code.HardBlock.{HardBlock}
use Rattle.hard_items.specs.declared.code.HardProgram.{HardProgram}
use Rattle.hard_items.specs.declared.code.Mark.{Mark}
use Rattle.hard_items.specs.declared.code.Signed.{Signed}
use Rattle.hard_items.specs.Streams.{nop, plain}
use Rattle.hard_items.specs.Run.{item_run}

-- The head of a block, after CFCSS: the signature register takes the block's difference, and at a block with several
-- predecessors the adjusting signature; the block's own signature is compared with it; the adjusting signature is left.
abbrev pub head_items : Mark → List Item
head_items m = plain (Xori 24 24 m.d) Head ∷ plain (if m.fan then Xor 24 24 28 else nop) Head ∷ plain (Ori 1 0 m.s) Head ∷ plain (Ori 28 0 m.adjust) Head ∷
    plain (Beq 24 1 2) Head ∷ plain nop Head ∷ plain (Break 2) Head ∷ []

abbrev pub with_heads : List HardBlock → List Mark → List HardBlock
with_heads [] marks = []
with_heads (b ∷ blocks) [] = b ∷ blocks
with_heads (b ∷ blocks) (m ∷ marks) = record { items = head_items m ++ b.items; successors = b.successors } ∷ with_heads blocks marks

-- The program whose blocks begin with their heads; where there are no marks, the program itself.
abbrev pub headed : Signed → HardProgram
headed s = record { blocks = with_heads s.program.blocks s.marks; entries = s.program.entries; initial = s.program.initial; memory_words = s.program.memory_words }

-- The run with heads.
abbrev pub signed_run : Signed → List ℕ → Observation End
signed_run s input = item_run (headed s) input
