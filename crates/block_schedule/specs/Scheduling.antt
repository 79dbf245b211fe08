-- The order into which the items of a block come: in each stretch the units of the two streams in turn, and nops where the
-- machine needs a word between two others.
use Rattle.std.specs.Prelude.{ℕ, ◌-◌, not, ◌==◌, ◌&&◌, max, if◌then◌else◌, List, [], ◌∷◌, ◌++◌, Option, Some, None, flat_map, map, replicate}
use Rattle.mips_isa.specs.declared.instr.Instr.{Instr}
use Rattle.mips_isa.specs.Machine.{reads_of, is_product, among}
use Rattle.hard_items.specs.declared.code.Class.{Class}
use Rattle.hard_items.specs.declared.code.Class.TheVariants.{Master, Shadow, Check, Act, Head, Input}
use Rattle.hard_items.specs.declared.code.Item.{Item}
use Rattle.hard_items.specs.declared.code.HardBlock.{HardBlock}
use Rattle.hard_items.specs.declared.code.HardProgram.{HardProgram}
use Rattle.hard_items.specs.Streams.{nop, plain}
use Rattle.hard_items.specs.Counts.{loaded, quiet_after, is_break}
use Rattle.block_schedule.specs.declared.unit.Whole.{Whole}
use Rattle.block_schedule.specs.declared.unit.Whole.TheVariants.{One, Two}

-- The items of a unit.
abbrev pub unit_items : Whole → List Item
unit_items (One i) = i ∷ []
unit_items (Two i j) = i ∷ j ∷ []

-- The items of a unit, if there is one.
abbrev pub optional : Option Whole → List Item
optional None = []
optional (Some u) = unit_items u

-- The class of a unit is that of its first item.
abbrev pub class_of : Whole → Class
class_of (One i) = i.class
class_of (Two i j) = i.class

-- The units of items in order: a product, which may wait already, is a unit with the item behind it.
abbrev pub units_behind : Option Item → List Item → List Whole
units_behind None [] = []
units_behind (Some p) [] = One p ∷ []
units_behind None (i ∷ more) = if is_product i.instr then units_behind (Some i) more else One i ∷ units_behind None more
units_behind (Some p) (i ∷ more) = Two p i ∷ units_behind None more

abbrev pub units : List Item → List Whole
units items = units_behind None items

-- Units of two streams in turn, as long as both have some left.
abbrev pub in_turn : List Whole → List Whole → List Whole
in_turn [] ss = ss
in_turn (m ∷ ms) [] = m ∷ ms
in_turn (m ∷ ms) (s ∷ ss) = m ∷ s ∷ in_turn ms ss

-- One of three by the class: of the first stream, of the second, or none of them.
abbrev pub by_stream : {A : Type 0} → Class → A → A → A → A
by_stream Master a b c = a
by_stream Shadow a b c = b
by_stream Check a b c = c
by_stream Act a b c = c
by_stream Head a b c = c
by_stream Input a b c = c

-- Each stretch of units of the streams in turn, where some of each are held already; all others where they stand.
abbrev pub riffled : List Whole → List Whole → List Whole → List Whole
riffled ms ss [] = in_turn ms ss
riffled ms ss (u ∷ us) = by_stream (class_of u) (riffled (ms ++ u ∷ []) ss us) (riffled ms (ss ++ u ∷ []) us) (in_turn ms ss ++ u ∷ riffled [] [] us)

-- The items with the streams of each stretch in turn.
abbrev pub turned : List Item → List Item
turned items = flat_map unit_items (riffled [] [] (units items))

-- How many nops must stand before an instruction: one where it reads what the word before it loaded, and before a product as
-- many as must still pass behind a move from HI or LO.
abbrev pub wait : ℕ → ℕ → Instr → ℕ
wait last quiet i = max (if not (last == 0) && among last (reads_of i) then 1 else 0) (if is_product i then quiet else 0)

-- Items with those nops between them; they stand in the class of the first stream, so that they part no stretch. A path leads by
-- a break or ends there, so a break is passed over.
abbrev pub with_nops : ℕ → ℕ → List Item → List Item
with_nops last quiet [] = []
with_nops last quiet (i ∷ more) =
    if is_break i.instr then i ∷ with_nops last quiet more else
    (replicate (wait last quiet i.instr) (plain nop Master) ++ i ∷ with_nops (loaded i.instr) (quiet_after i.instr (quiet - wait last quiet i.instr)) more)

abbrev pub scheduled : List Item → List Item
scheduled items = with_nops 0 0 (turned items)

abbrev pub scheduled_block : HardBlock → HardBlock
scheduled_block b = record { items = scheduled b.items; successors = b.successors }

-- The program with the streams of each stretch in turn.
abbrev pub scheduled_program : HardProgram → HardProgram
scheduled_program p = record { blocks = map scheduled_block p.blocks; entries = p.entries; initial = p.initial; memory_words = p.memory_words }
