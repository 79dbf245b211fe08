-- The run of the words beside the run of the items: the same place, memory, HI, LO and registers after each number of steps,
-- addresses standing for block numbers and return numbers. First what the layout relies on in each block.
use Rattle.std.specs.Prelude.{◌≡◌, ◌≢◌, ◌≤◌, ◌<◌, ◌⊎◌, ◌↔◌, ℕ, ◌+◌, ◌*◌, ◌/◌, ◌^◌, Bool, true, false, if◌then◌else◌, Option, Some, None, List, []}
use Rattle.std.specs.Prelude.{◌∷◌, ◌++◌, length, slice_index, All}
use Rattle.hard_runs.specs.Observed.{SameObserved}
use Rattle.hard_runs.specs.Stepping.{go, Always}
use Rattle.mips_isa.specs.declared.instr.Instr.{Instr}
use Rattle.mips_isa.specs.declared.instr.Instr.TheVariants.{J, Jal, Jr, Beq, Bne, Break, Lui, Ori}
use Rattle.mips_isa.specs.declared.instr.End.{End}
use Rattle.mips_isa.specs.declared.instr.End.TheVariants.{Exited, Trapped, Starved, Reported, Exception, Hazard}
use Rattle.mips_isa.specs.Machine.{State, is_jump}
use Rattle.mips_isa.specs.Runs.{run, observed}
use Rattle.mips_isa.specs.Image.{boot_state}
use Rattle.mips_isa.specs.Table.{IsInRange}
use Rattle.hard_items.specs.declared.code.Fix.{Fix}
use Rattle.hard_items.specs.declared.code.Fix.TheVariants.{Plain, Block, Function, ReturnHigh, ReturnLow}
use Rattle.hard_items.specs.declared.code.Item.{Item}
use Rattle.hard_items.specs.declared.code.HardProgram.{HardProgram}
use Rattle.hard_items.specs.declared.code.Mark.{Mark}
use Rattle.hard_items.specs.declared.code.Signed.{Signed}
use Rattle.hard_items.specs.Heads.{headed}
use Rattle.hard_items.specs.WellFormed.{WellFormed, IsEntered}
use Rattle.hard_items.specs.Streams.{nop}
use Rattle.hard_items.specs.Run.{Data, Spot, Way, Onward, Over, To, items, items_of, named, first_spot, item_run}
use Rattle.hard_items.specs.Forms.{Each, Formed, HalvesPair}
use Rattle.hard_items.specs.Counts.{Calm, calm_from}
use Rattle.mips_text.specs.Blocks.{IsStart}
use Rattle.hard_items.specs.Ways.{MayFollow, Holds, CallsFunction}
use Rattle.hard_words.specs.Words.{AreWords}
use Rattle.hard_items.specs.Rules.{LawfulAt, NeverReports}
use Rattle.layout_law.specs.Layout.{words, address, Reaches, text, image}

-- ---- what stands in a block

-- A nop without a field.
pub record IsNop (i : Item) : Type 0 where
  pub nop : i.instr ≡ nop
  pub no_field : i.fix ≡ Plain

-- A break without a field.
pub record IsStop (i : Item) : Type 0 where
  pub code : ℕ
  pub stop : i.instr ≡ Break code
  pub no_field : i.fix ≡ Plain

-- Behind a branch or a jump that leaves the block: a nop, and nothing more.
abbrev pub LastSlot : List Item → Type 0
LastSlot [] = ⊥
LastSlot (i ∷ []) = IsNop i
LastSlot (i ∷ j ∷ more) = ⊥

-- Behind a branch that skips a break: an item that neither goes anywhere nor has a field, the break, and something more.
abbrev pub SkippedSlot : List Item → Type 0
SkippedSlot [] = ⊥
SkippedSlot (i ∷ []) = ⊥
SkippedSlot (i ∷ j ∷ []) = ⊥
SkippedSlot (i ∷ j ∷ k ∷ more) = (is_jump i.instr ≡ false) × ((i.fix ≡ Plain) × IsStop j)

-- A conditional branch skips a break, or goes to a block.
abbrev pub BranchFits : HardProgram → Fix → ℕ → List Item → Type 0
BranchFits p Plain imm more = (imm ≡ 2) × SkippedSlot more
BranchFits p (Block t) imm more = (t < length p.blocks) × LastSlot more
BranchFits p (Function f) imm more = ⊥
BranchFits p ReturnHigh imm more = ⊥
BranchFits p ReturnLow imm more = ⊥

abbrev pub JumpFits : HardProgram → Fix → List Item → Type 0
JumpFits p (Block t) more = (t < length p.blocks) × LastSlot more
JumpFits p fix more = ⊥

abbrev pub CallFits : HardProgram → Fix → List Item → Type 0
CallFits p (Function f) more = (named p (Function f) < length p.blocks) × LastSlot more
CallFits p fix more = ⊥

-- An item that goes nowhere has no field, or one for a half of a return address.
abbrev pub StayFits : Fix → Instr → Type 0
StayFits Plain i = Unit {0}
StayFits (Block t) i = ⊥
StayFits (Function f) i = ⊥
StayFits ReturnHigh i = i ≡ Lui 25 0
StayFits ReturnLow i = i ≡ Ori 25 25 0

-- An item fits what stands behind it.
abbrev pub ItemFits : HardProgram → Fix → Instr → List Item → Type 0
ItemFits p fix (J target) more = JumpFits p fix more
ItemFits p fix (Jal target) more = CallFits p fix more
ItemFits p fix (Jr rs) more = (fix ≡ Plain) × LastSlot more
ItemFits p fix (Beq rs rt imm) more = BranchFits p fix imm more
ItemFits p fix (Bne rs rt imm) more = BranchFits p fix imm more
ItemFits p fix i more = StayFits fix i

-- The items of a block, or those that are still to come: each fits, and the last is a delay slot's nop or a break.
abbrev pub Lines : HardProgram → (slot : Bool) → List Item → Type 0
Lines p slot [] = ⊥
Lines p slot (i ∷ []) = ((slot ≡ true) × IsNop i) ⊎ IsStop i
Lines p slot (i ∷ j ∷ more) = ItemFits p i.fix i.instr (j ∷ more) × Lines p (is_jump i.instr) (j ∷ more)

-- The branch to a block at an address reaches it.
abbrev pub FieldReaches : HardProgram → ℕ → Fix → Instr → Type 0
FieldReaches p at (Block t) (Beq rs rt imm) = Reaches (at + 4) (address p t)
FieldReaches p at (Block t) (Bne rs rt imm) = Reaches (at + 4) (address p t)
FieldReaches p at fix i = Unit {0}

abbrev pub AllReach : HardProgram → ℕ → List Item → Type 0
AllReach p at [] = Unit {0}
AllReach p at (i ∷ more) = FieldReaches p at i.fix i.instr × AllReach p (at + 4) more

-- What the layout relies on: the condition of layout, and what the forms of blocks give.
pub record Layable (p : HardProgram) : Type 0 where
  pub lines : (b : ℕ) → b < length p.blocks → Lines p false (items_of p b)
  pub halves : (b : ℕ) → HalvesPair (items_of p b) false
  pub calm : Calm p
  pub in_range : (b : ℕ) → Each (λ i. IsInRange i.instr) (items_of p b)
  pub reach : (b : ℕ) → AllReach p (address p b) (items_of p b)
  pub follows : (b c : ℕ) → MayFollow p b c → c < length p.blocks
  pub size : words p.blocks ≤ 66060288

-- ---- the two runs side by side

-- The word for a number: of a return number the address of its block.
abbrev pub worth : HardProgram → Bool → ℕ → ℕ
worth p back n = if back then address p n else n

-- Registers are the same, addresses standing for return numbers. Between the halves of a return address (open_) register 25
-- holds the high half alone.
pub record SameRegs (p : HardProgram) (open_ : Bool) (b : ℕ) (backs : ℕ → Bool) (numbers words : List ℕ) : Type 0 where
  pub all : length numbers ≡ 32
  pub there : length words ≡ 32
  pub same : (r : ℕ) → (open_ ≡ false) ⊎ (r ≢ 25) → slice_index words r ≡ worth p (backs r) (slice_index numbers r)
  pub half : open_ ≡ true → slice_index words 25 ≡ address p (b + 1) / 2 ^ 16 * 2 ^ 16
  pub blocks : (r : ℕ) → backs r ≡ true → slice_index numbers r ≤ length p.blocks

-- Memory is the same, addresses standing for return numbers.
pub record SameMemory (p : HardProgram) (stored : ℕ → Bool) (numbers words : List ℕ) : Type 0 where
  pub there : length words ≡ length numbers
  pub same : (q : ℕ) → slice_index words q ≡ worth p (stored q) (slice_index numbers q)
  pub blocks : (q : ℕ) → stored q ≡ true → slice_index numbers q ≤ length p.blocks

-- The data are the same.
pub record SameData (p : HardProgram) (open_ : Bool) (b : ℕ) (d : Data) (s : State) : Type 0 where
  pub regs : SameRegs p open_ b d.backs d.regs s.regs
  pub memory : SameMemory p d.stored d.memory s.memory
  pub hi : s.hi ≡ d.hi
  pub lo : s.lo ≡ d.lo
  pub feed : s.feed ≡ d.feed
  pub fed : s.fed ≡ d.fed

-- Where the run of the words goes on behind the word that comes next, and what may stand there.
abbrev pub WaySame : HardProgram → Way → (pc npc : ℕ) → (slot : Bool) → List Item → Type 0
WaySame p Onward pc npc slot rest = (npc ≡ pc + 4)
WaySame p Over pc npc slot rest = (npc ≡ pc + 8) × ((slot ≡ true) × SkippedSlot rest)
WaySame p (To t) pc npc slot rest = (npc ≡ address p t) × ((t < length p.blocks) × ((slot ≡ true) × LastSlot rest))

-- In a delay slot stands no branch or jump.
abbrev pub SlotSame : Bool → List Item → Type 0
SlotSame slot [] = Unit {0}
SlotSame slot (i ∷ more) = slot ≡ true → is_jump i.instr ≡ false

-- The same place: block and item, the way behind it, and what still has to pass.
pub record SamePlace (p : HardProgram) (open_ : Bool) (t : Spot) (s : State) : Type 0 where
  pub there : t.block < length p.blocks
  pub done : List Item
  pub split : items_of p t.block ≡ done ++ t.rest
  pub pc : s.pc ≡ address p t.block + 4 * length done
  pub way : WaySame p t.way s.pc s.npc s.slot t.rest
  pub lines : Lines p s.slot t.rest
  pub slot : SlotSame s.slot t.rest
  pub halves : HalvesPair t.rest open_
  pub calm : calm_from s.last_load s.quiet t.rest ≡ true
  pub quiet : s.quiet ≤ 2
  pub slot_quiet : s.slot ≡ true → (s.quiet ≤ 1) × (s.last_load ≡ 0)

-- Ends are the same but for the place of a report or an exception.
abbrev pub SameEnd : Option End → Option End → Type 0
SameEnd None e = e ≡ None
SameEnd (Some (Exited w)) e = e ≡ Some (Exited w)
SameEnd (Some (Trapped k)) e = e ≡ Some (Trapped k)
SameEnd (Some Starved) e = e ≡ Some Starved
SameEnd (Some (Reported code at)) e = (here : ℕ) × (e ≡ Some (Reported code here))
SameEnd (Some (Exception code at)) e = (here : ℕ) × (e ≡ Some (Exception code here))
SameEnd (Some (Hazard at)) e = (here : ℕ) × (e ≡ Some (Hazard here))

-- A state of the items and one of the words stand beside each other.
pub record Level (p : HardProgram) (t : Spot) (s : State) : Type 0 where
  pub open_ : Bool
  pub text : s.text ≡ text p
  pub place : SamePlace p open_ t s
  pub data_ : SameData p open_ t.block t.now s
  pub ends : SameEnd t.end s.end

-- ---- the law

-- After each number of steps both have put out the same and stand beside each other.
pub record InStep (p : HardProgram) (input : List ℕ) (n : ℕ) : Type 0 where
  pub output : (run (boot_state (image p) input) None n).output ≡ (go (items p) (first_spot p input) n).output
  pub level : Level p (go (items p) (first_spot p input) n).state (run (boot_state (image p) input) None n).state

abbrev pub RunsInStep : Type 0
RunsInStep = (p : HardProgram) (input : List ℕ) → Layable p → 0 < length p.blocks → Always (items p) (first_spot p input) (LawfulAt p) → (n : ℕ) → InStep p input n

-- Where no item reports, the words are the same observed from outside as the items.
abbrev pub WordsSame : Type 0
WordsSame = (p : HardProgram) (input : List ℕ) → Layable p → 0 < length p.blocks → AreWords input → Always (items p) (first_spot p input) (LawfulAt p) → NeverReports p →
    SameObserved (observed (boot_state (image p) input) None) (item_run p input)

-- ---- what a signed program gives

-- A mark fits the fields of a head; there is one mark for each block, or none.
pub record MarkFits (m : Mark) : Type 0 where
  pub s : m.s < 2 ^ 16
  pub d : m.d < 2 ^ 16
  pub adjust : m.adjust < 2 ^ 16

abbrev pub MarksFit : Signed → Type 0
MarksFit s = ((s.marks ≡ []) ⊎ (length s.marks ≡ length s.program.blocks)) × All MarkFits s.marks

-- The condition of the layout, and what it takes of a program that is apart.
pub record Laying (s : Signed) : Type 0 where
  pub well_formed : WellFormed s.program
  pub formed : (b : ℕ) → b < length s.program.blocks → Formed (items_of s.program b)
  pub halves : (b : ℕ) → HalvesPair (items_of s.program b) false
  pub calm : Calm s.program
  pub marks : MarksFit s
  pub reach : (b : ℕ) → AllReach (headed s) (address (headed s) b) (items_of (headed s) b)
  pub size : words (headed s).blocks ≤ 66060288

-- A signed program that is well formed, of forms and calm can be laid out.
abbrev pub CanBeLaid : Type 0
CanBeLaid = (s : Signed) → Laying s → Layable (headed s)

-- ---- blocks and starts

-- How blocks are entered, as the words tell it: behind a call and behind a branch stands a block, and each block but the first is
-- entered.
pub record Entered (p : HardProgram) : Type 0 where
  pub some : 0 < length p.blocks
  pub two : (b : ℕ) → b < length p.blocks → 2 ≤ length (items_of p b)
  pub calls_go_on : (b f : ℕ) → CallsFunction p b f → b + 1 < length p.blocks
  pub branches_go_on : (b t rs rt imm : ℕ) (i : Item) → Holds p b i → i.fix ≡ Block t → (i.instr ≡ Beq rs rt imm) ⊎ (i.instr ≡ Bne rs rt imm) → b + 1 < length p.blocks
  pub each : (c : ℕ) → 0 < c → c < length p.blocks → IsEntered p c

-- The starts of the words are the addresses of the blocks.
abbrev pub LaidStarts : Type 0
LaidStarts = (p : HardProgram) → Layable p → Entered p → (w : ℕ) → IsStart (text p) 0x00400000 w ↔ ((b : ℕ) × (b < length p.blocks) × (w ≡ address p b))
