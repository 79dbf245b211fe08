-- The run of a program of items: registers and memory as on the machine, block numbers in place of addresses, and beside each
-- register and each word of memory whether it holds a return number. What an item does to registers and memory is what its
-- instruction does on the machine; hazards have no part in it.
use Rattle.std.specs.Prelude.{ℕ, ◌+◌, ◌-◌, Bool, true, false, not, ◌==◌, if◌then◌else◌, Option, Some, None, List, [], ◌∷◌, ◌++◌, length, replicate}
use Rattle.std.specs.Prelude.{drop, slice_get, slice_index}
use Rattle.hard_runs.specs.Observed.{Observation}
use Rattle.hard_runs.specs.Stepping.{Stepper, watch}
use Rattle.mips_isa.specs.declared.instr.Instr.{Instr}
use Rattle.mips_isa.specs.declared.instr.Instr.TheVariants.{J, Jal, Jr, Beq, Bne, Sw}
use Rattle.mips_isa.specs.declared.instr.Act.{Act}
use Rattle.mips_isa.specs.declared.instr.Act.TheVariants as act
use Rattle.mips_isa.specs.declared.instr.End.{End}
use Rattle.mips_isa.specs.declared.instr.End.TheVariants.{Exception}
use Rattle.mips_isa.specs.Machine as machine
use Rattle.hard_items.specs.declared.code.Fix.{Fix}
use Rattle.hard_items.specs.declared.code.Fix.TheVariants.{Plain, Block, Function, ReturnHigh, ReturnLow}
use Rattle.hard_items.specs.declared.code.Item.{Item}
use Rattle.hard_items.specs.declared.code.HardBlock.{HardBlock}
use Rattle.hard_items.specs.declared.code.HardProgram.{HardProgram}

-- ---- data

-- Registers, HI, LO, memory and input as on the machine, and which registers and which words of memory hold a return number.
pub record Data : Type 0 where
  pub regs : List ℕ
  pub hi : ℕ
  pub lo : ℕ
  pub memory : List ℕ
  pub feed : List ℕ
  pub fed : ℕ
  pub backs : ℕ → Bool
  pub stored : ℕ → Bool

-- A machine with these registers and this memory; its other parts have no part in what an item does.
abbrev pub machine_of : Data → machine.State
machine_of d = record {
  pc = 0;
  npc = 0;
  regs = d.regs;
  hi = d.hi;
  lo = d.lo;
  text = [];
  memory = d.memory;
  feed = d.feed;
  fed = d.fed;
  last_load = 0;
  quiet = 0;
  slot = false;
  end = None;
}

-- What a register holds.
abbrev pub held : Data → ℕ → ℕ
held d r = slice_index d.regs r

-- An act with block numbers in place of addresses: jal leaves the number of the next block, and a way has no effect on data.
abbrev pub numbered : ℕ → Act → Act
numbered b (act.Write r v) = act.Write r v
numbered b (act.Move r v) = act.Move r v
numbered b (act.Both h l) = act.Both h l
numbered b (act.Load r a) = act.Load r a
numbered b (act.Store a v) = act.Store a v
numbered b (act.Go to) = act.Pass
numbered b (act.Link to) = act.Write 31 (b + 1)
numbered b act.Pass = act.Pass
numbered b act.Service = act.Service
numbered b (act.Stop e) = act.Stop e

-- The low half of a return address completes the number of the next block.
abbrev pub completed : Fix → ℕ → Act → Act
completed Plain b a = a
completed (Block t) b a = a
completed (Function f) b a = a
completed ReturnHigh b a = a
completed ReturnLow b a = act.Write 25 (b + 1)

-- What an item of a block does.
abbrev pub item_act : ℕ → Item → Data → Act
item_act b i d = completed i.fix b (numbered b (machine.act i.instr (machine_of d)))

-- ---- return numbers

-- The instruction is jal.
abbrev pub is_call : Instr → Bool
is_call (Jal target) = true
is_call i = false

-- The field is the low half of a return address.
abbrev pub is_low : Fix → Bool
is_low Plain = false
is_low (Block t) = false
is_low (Function f) = false
is_low ReturnHigh = false
is_low ReturnLow = true

-- The item makes a return number.
abbrev pub makes_number : Item → Bool
makes_number i = if is_call i.instr then true else is_low i.fix

-- The register whose word sw stores.
abbrev pub value_of : Instr → ℕ
value_of (Sw rt rs imm) = rt
value_of i = 0

-- A mark at one place.
abbrev pub marked : (ℕ → Bool) → ℕ → Bool → ℕ → Bool
marked f q b = λ r. if r == q then b else f r

-- The same for registers; $0 holds none.
abbrev pub marked_reg : (ℕ → Bool) → ℕ → Bool → ℕ → Bool
marked_reg f q b = if q == 0 then f else marked f q b

-- The registers that hold a return number after an act: what makes one does, a load carries it along, any other write ends it.
abbrev pub backs_after : Item → Act → Data → ℕ → Bool
backs_after i (act.Write r v) d = marked_reg d.backs r (makes_number i)
backs_after i (act.Move r v) d = marked_reg d.backs r false
backs_after i (act.Both h l) d = d.backs
backs_after i (act.Load r a) d = marked_reg d.backs r (d.stored (machine.place a))
backs_after i (act.Store a v) d = d.backs
backs_after i (act.Go to) d = d.backs
backs_after i (act.Link to) d = d.backs
backs_after i act.Pass d = d.backs
backs_after i act.Service d = marked_reg d.backs 2 false
backs_after i (act.Stop e) d = d.backs

-- The words of memory that hold one: a store carries it along.
abbrev pub stored_after : Item → Act → Data → ℕ → Bool
stored_after i (act.Write r v) d = d.stored
stored_after i (act.Move r v) d = d.stored
stored_after i (act.Both h l) d = d.stored
stored_after i (act.Load r a) d = d.stored
stored_after i (act.Store a v) d = marked d.stored (machine.place a) (d.backs (value_of i.instr))
stored_after i (act.Go to) d = d.stored
stored_after i (act.Link to) d = d.stored
stored_after i act.Pass d = d.stored
stored_after i act.Service d = d.stored
stored_after i (act.Stop e) d = d.stored

-- The data after an act, from the machine's state after it.
abbrev pub data_after : Item → Act → Data → machine.State → Data
data_after i a d s = record { regs = s.regs; hi = s.hi; lo = s.lo; memory = s.memory; feed = s.feed; fed = s.fed; backs = backs_after i a d; stored = stored_after i a d }

-- ---- ways

-- Where a run goes on behind the item that comes next: at the item behind it, at the one behind that, or at a block.
pub data Way : Type 0 where
  Onward : Way
  Over : Way
  To : ℕ → Way

-- The block that a field names.
abbrev pub named : HardProgram → Fix → ℕ
named p Plain = 0
named p (Block t) = t
named p (Function f) = slice_index p.entries f
named p ReturnHigh = 0
named p ReturnLow = 0

-- Where a taken branch goes: to a block, or over the item behind its delay slot.
abbrev pub branch_way : Fix → Way
branch_way Plain = Over
branch_way (Block t) = To t
branch_way (Function f) = Over
branch_way ReturnHigh = Over
branch_way ReturnLow = Over

-- Where an item goes behind its delay slot; all but branches and jumps go onward.
abbrev pub way_of : HardProgram → Item → Data → Instr → Way
way_of p i d (J target) = To (named p i.fix)
way_of p i d (Jal target) = To (named p i.fix)
way_of p i d (Jr rs) = To (held d rs)
way_of p i d (Beq rs rt imm) = if held d rs == held d rt then branch_way i.fix else Onward
way_of p i d (Bne rs rt imm) = if held d rs == held d rt then Onward else branch_way i.fix
way_of p i d x = Onward

-- ---- states and steps

-- Where a run stands: the block, those of its items that are still to come, where it goes on behind the first of them, the
-- data, and the end, if there is one.
pub record Spot : Type 0 where
  pub block : ℕ
  pub rest : List Item
  pub way : Way
  pub now : Data
  pub end : Option End

-- The items of a block that may be there.
abbrev pub block_items : Option HardBlock → List Item
block_items None = []
block_items (Some b) = b.items

-- The items of the block of a number.
abbrev pub items_of : HardProgram → ℕ → List Item
items_of p b = block_items (slice_get p.blocks b)

-- Before the first of some items of a block; where none is left, at the start of the next block.
abbrev pub before : HardProgram → ℕ → List Item → Way → Data → Spot
before p b [] w d = record { block = b + 1; rest = items_of p (b + 1); way = w; now = d; end = None }
before p b (i ∷ more) w d = record { block = b; rest = i ∷ more; way = w; now = d; end = None }

-- At the start of a block.
abbrev pub at_block : HardProgram → ℕ → Data → Spot
at_block p b d = record { block = b; rest = items_of p b; way = Onward; now = d; end = None }

-- The list without its first element, if it has one.
abbrev pub tail : {A : Type 0} → List A → List A
tail [] = []
tail (x ∷ xs) = xs

-- Behind an item: the ways of the item before it and of the item itself. An item in a delay slot has no way of its own.
abbrev pub arrived : HardProgram → Way → Way → ℕ → List Item → Data → Spot
arrived p Onward own b more d = before p b more own d
arrived p Over own b more d = before p b (tail more) Onward d
arrived p (To t) own b more d = at_block p t d

-- With an end nothing else changes.
abbrev pub settled : HardProgram → Spot → Item → List Item → Act → machine.State × Option ℕ → Option End → Spot × Option ℕ
settled p s i more a r None = (arrived p s.way (way_of p i s.now i.instr) s.block more (data_after i a s.now r.0), r.1)
settled p s i more a r (Some e) = (record s { end = Some e }, None)

-- One item.
abbrev pub do_item : HardProgram → Spot → Item → List Item → Act → Spot × Option ℕ
do_item p s i more a = settled p s i more a (machine.perform a (machine_of s.now)) (machine.perform a (machine_of s.now)).0.end

-- A block that has run out of items is an address without an instruction; no well-formed program comes to this.
abbrev pub step_rest : HardProgram → Spot → List Item → Spot × Option ℕ
step_rest p s [] = (record s { end = Some (Exception 6 0) }, None)
step_rest p s (i ∷ more) = do_item p s i more (item_act s.block i s.now)

abbrev pub step_from : HardProgram → Spot → Option End → Spot × Option ℕ
step_from p s None = step_rest p s s.rest
step_from p s (Some e) = (s, None)

-- The machine of a program of items.
abbrev pub items : HardProgram → Stepper Spot End
items p = record { step = λ s. step_from p s s.end; end = λ s. s.end }

-- The data at the start: all registers, HI and LO 0, the initial words in memory and zeros behind them, no return number.
abbrev pub first_data : HardProgram → List ℕ → Data
first_data p input = record {
  regs = replicate 32 0;
  hi = 0;
  lo = 0;
  memory = p.initial ++ replicate (p.memory_words - length p.initial) 0;
  feed = input;
  fed = 0;
  backs = λ r. false;
  stored = λ q. false;
}

-- The state at the start of a run.
abbrev pub first_spot : HardProgram → List ℕ → Spot
first_spot p input = at_block p 0 (first_data p input)

-- The run of a program of items: what is seen after each number of steps.
abbrev pub item_run : HardProgram → List ℕ → Observation End
item_run p input = watch (items p) (first_spot p input)
