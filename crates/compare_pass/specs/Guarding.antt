-- The items with which each item stands behind its checks.
use Rattle.std.specs.Prelude.{ℕ, Bool, true, false, not, ◌&&◌, if◌then◌else◌, List, [], ◌∷◌, ◌++◌, flat_map, map}
use Rattle.mips_isa.specs.declared.instr.Instr.{Instr}
use Rattle.mips_isa.specs.declared.instr.Instr.TheVariants.{Ori, Beq, Break}
use Rattle.hard_items.specs.declared.code.Class.{Class}
use Rattle.hard_items.specs.declared.code.Class.TheVariants.{Master, Shadow, Check, Act, Head, Input}
use Rattle.hard_items.specs.declared.code.Item.{Item}
use Rattle.hard_items.specs.declared.code.HardBlock.{HardBlock}
use Rattle.hard_items.specs.declared.code.HardProgram.{HardProgram}
use Rattle.hard_items.specs.Streams.{plain}
use Rattle.hard_items.specs.Forms.{check}
use Rattle.hard_items.specs.Rules.{use_checks}
use Rattle.hard_items.specs.Counts.{is_of_check}

-- The item brings the number of a service that acts for both streams.
abbrev pub is_number : Instr → Bool
is_number (Ori rt rs imm) = true
is_number i = false

abbrev pub acts : Class → Bool
acts Master = false
acts Shadow = false
acts Check = false
acts Act = true
acts Head = false
acts Input = false

-- The checks of two registers each, one behind the other.
abbrev pub checks : List (ℕ × ℕ) → List Item
checks pairs = flat_map (λ c. check c.0 c.1) pairs

-- The number of a service stands in the delay slot of its check.
abbrev pub number_items : Item → List Item
number_items i = plain (Beq 4 14 2) Check ∷ i ∷ plain (Break 1) Check ∷ []

-- An item that acts for both streams behind its checks.
abbrev pub acting : Item → List Item
acting i = if is_number i.instr then number_items i else checks (use_checks i.instr) ++ i ∷ []

-- An item behind its checks, where they don't stand there already.
abbrev pub guarded : Bool → Item → List Item
guarded checked i = if acts i.class && not checked then acting i else i ∷ []

-- Items with their checks; what stands right behind an item of a check has its checks already.
abbrev pub with_checks : Bool → List Item → List Item
with_checks checked [] = []
with_checks checked (i ∷ more) = guarded checked i ++ with_checks (is_of_check i.class) more

abbrev pub checked_block : HardBlock → HardBlock
checked_block b = record { items = with_checks false b.items; successors = b.successors }

-- The program with its checks set.
abbrev pub checked_program : HardProgram → HardProgram
checked_program p = record { blocks = map checked_block p.blocks; entries = p.entries; initial = p.initial; memory_words = p.memory_words }
