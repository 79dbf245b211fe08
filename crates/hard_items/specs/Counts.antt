-- Numbers of a program of items, and what its order of items keeps clear of.
use Rattle.std.specs.Prelude.{◌≡◌, ◌<◌, ℕ, zero, suc, ◌+◌, ◌-◌, ◌*◌, Bool, true, false, not, ◌==◌, ◌&&◌, ◌||◌, nat_lt, if◌then◌else◌, max, List, []}
use Rattle.std.specs.Prelude.{◌∷◌, ◌++◌, length, map, sum, sum_by, count_by, replicate, slice_get, Some}
use Rattle.mips_isa.specs.declared.instr.Instr.{Instr}
use Rattle.mips_isa.specs.declared.instr.Instr.TheVariants.{Sll, Lw, Sw, Break, Syscall, Beq, Bne, Jr, Ori}
use Rattle.mips_isa.specs.Machine.{reads_of, is_product, is_jump, among}
use Rattle.mips_isa.specs.Locality.{is_move}
use Rattle.mips_text.specs.Turns as turns
use Rattle.hard_items.specs.declared.code.Class.{Class}
use Rattle.hard_items.specs.declared.code.Class.TheVariants.{Master, Shadow}
use Rattle.hard_items.specs.declared.code.Fix.{Fix}
use Rattle.hard_items.specs.declared.code.Fix.TheVariants.{Plain, Block, Function, ReturnHigh, ReturnLow}
use Rattle.hard_items.specs.declared.code.Item.{Item}
use Rattle.hard_items.specs.declared.code.HardBlock.{HardBlock}
use Rattle.hard_items.specs.declared.code.HardProgram.{HardProgram}
use Rattle.hard_items.specs.Streams.{is_master, is_shadow, touched}
use Rattle.hard_items.specs.Run.{items_of}
use Rattle.hard_items.specs.Rules.{checks_of}
use Rattle.mips_text.specs.Loads.{is_reload}

-- ---- hazards

-- The register that an instruction loads, else 0.
abbrev pub loaded : Instr → ℕ
loaded (Lw rt rs imm) = rt
loaded i = 0

-- How many items must still pass before a product may stand.
abbrev pub quiet_after : Instr → ℕ → ℕ
quiet_after i quiet = if is_move i then 2 else quiet - 1

abbrev pub is_break : Instr → Bool
is_break (Break code) = true
is_break i = false

-- The item may stand behind an item that loaded a register, with so many items to pass before a product.
abbrev pub may_stand : ℕ → ℕ → Instr → Bool
may_stand last quiet i = not (not (last == 0) && among last (reads_of i)) && not (is_product i && nat_lt 0 quiet)

-- No item reads what the item before it on a path loads, and no product stands within two items behind a move from HI or LO.
-- A path leads by a break or ends there, so a break is passed over.
abbrev pub calm_from : ℕ → ℕ → List Item → Bool
calm_from last quiet [] = true
calm_from last quiet (i ∷ more) =
    if is_break i.instr then calm_from last quiet more else
    (may_stand last quiet i.instr && calm_from (loaded i.instr) (quiet_after i.instr quiet) more)

abbrev pub Calm : HardProgram → Type 0
Calm p = (b : ℕ) → calm_from 0 0 (items_of p b) ≡ true

-- ---- counts

-- Nops that are no delay slots: the ones that stand in no form.
abbrev pub is_nop : Instr → Bool
is_nop (Sll rd rt sh) = rd == 0 && (rt == 0 && sh == 0)
is_nop i = false

abbrev pub free_nops_behind : Bool → List Item → ℕ
free_nops_behind slot [] = 0
free_nops_behind slot (i ∷ more) = (if is_nop i.instr && not slot then 1 else 0) + free_nops_behind (is_jump i.instr) more

abbrev pub free_nops : List Item → ℕ
free_nops items = free_nops_behind false items

-- A conditional branch that goes to a block.
abbrev pub is_block : Fix → Bool
is_block Plain = false
is_block (Block t) = true
is_block (Function f) = false
is_block ReturnHigh = false
is_block ReturnLow = false

abbrev pub is_conditional : Instr → Bool
is_conditional (Beq rs rt imm) = true
is_conditional (Bne rs rt imm) = true
is_conditional i = false

abbrev pub is_branch : Item → Bool
is_branch i = is_conditional i.instr && is_block i.fix

abbrev pub branches : List Item → ℕ
branches items = count_by is_branch items

-- The nops that an item may need behind it.
abbrev pub nops_for : Item → ℕ
nops_for i = if not (loaded i.instr == 0) then 1 else (if is_move i.instr then 2 else 0)

-- The words that an item's checks take where they don't stand yet: three each, and two around the number of a service.
abbrev pub check_words : Instr → ℕ → ℕ
check_words (Ori rt rs imm) n = 2
check_words i n = 3 * n

-- The words of checks that stand in a block already: each stands in the class of checks.
abbrev pub is_of_check : Class → Bool
is_of_check Class.Check = true
is_of_check Class.Master = false
is_of_check Class.Shadow = false
is_of_check Class.Act = false
is_of_check Class.Head = false
is_of_check Class.Input = false

abbrev pub checks_wanted : Item → ℕ
checks_wanted i = if length (checks_of i.class i.instr) == 0 then 0 else check_words i.instr (length (checks_of i.class i.instr))

abbrev pub checks_there : List Item → ℕ
checks_there items = count_by (λ i. is_of_check i.class) items

-- The most words that a block can still come to before its free nops.
abbrev pub block_room : HardBlock → ℕ
block_room b = (length b.items - free_nops b.items - checks_there b.items) + sum_by checks_wanted b.items + 7 + 9 * branches b.items

-- The words that a program can still come to: its items and the checks that its uses lack, a head each block, a far form each
-- branch, and the nops, those that stand or those that may be needed.
abbrev pub room : HardProgram → ℕ
room p = sum_by block_room p.blocks + max (sum_by (λ b. free_nops b.items) p.blocks) (sum_by (λ b. sum_by nops_for b.items) p.blocks)

abbrev pub reloads : HardProgram → ℕ
reloads p = sum_by (λ b. count_by (λ i. is_reload i.instr) b.items) p.blocks

-- ---- turns

-- In each block the units of the two streams take turns.
abbrev pub Turned : HardProgram → Type 0
Turned p = (b : ℕ) → turns.Turned (map (λ i. i.instr) (items_of p b))

-- The stronger form: neither checks nor items that touch no register but 0 part a run.
abbrev pub TurnedThrough : HardProgram → Type 0
TurnedThrough p = (b : ℕ) → turns.TurnedThrough (map (λ i. i.instr) (items_of p b))
