-- One program of items as another with its blocks at other places, and with blocks of their own for some ways: what the far form
-- of branches and the splitting of edges have in common. The notion is the project's own.
use Rattle.std.specs.Prelude.{◌≡◌, ◌<◌, ◌≤◌, ℕ, ◌+◌, ◌-◌, Bool, true, false, if◌then◌else◌, List, [], ◌∷◌, length, slice_index}
use Rattle.hard_runs.specs.Observed.{SameObserved}
use Rattle.hard_runs.specs.Stepping.{Always}
use Rattle.mips_isa.specs.declared.instr.Instr.{Instr}
use Rattle.mips_isa.specs.declared.instr.Instr.TheVariants.{J, Jr, Beq, Bne}
use Rattle.mips_isa.specs.Table.{IsInRange}
use Rattle.hard_items.specs.declared.code.Fix.{Fix}
use Rattle.hard_items.specs.declared.code.Fix.TheVariants.{Block, Function}
use Rattle.hard_items.specs.declared.code.Item.{Item}
use Rattle.hard_items.specs.declared.code.HardProgram.{HardProgram}
use Rattle.hard_items.specs.Run.{Data, items, items_of, makes_number, first_spot, item_run}
use Rattle.hard_items.specs.Ways.{Holds, MayFollow}
use Rattle.hard_items.specs.Forms.{Each, Jump, close_items}
use Rattle.hard_items.specs.Rules.{LawfulAt}
use Rattle.layout_law.specs.Level.{Lines}

-- ---- places

-- Block n of q is the place of block c of p, or is a jump there and no more.
pub data LeadsTo (q : HardProgram) (place : ℕ → ℕ) (n c : ℕ) : Type 0 where
  straight : n ≡ place c → LeadsTo q place n c
  relayed : items_of q n ≡ close_items (Jump (place c)) → LeadsTo q place n c

-- The number that stands for a return number: behind the place of the block that called.
abbrev pub return_place : (ℕ → ℕ) → ℕ → ℕ
return_place place n = place (n - 1) + 1

-- A return number of a block, and where its number leads.
pub record IsReturn (q : HardProgram) (place : ℕ → ℕ) (n : ℕ) : Type 0 where
  pub behind : 1 ≤ n
  pub leads : LeadsTo q place (return_place place n) n

-- The opposite branch.
abbrev pub opposite : Instr → Instr
opposite (Beq rs rt imm) = Bne rs rt imm
opposite (Bne rs rt imm) = Beq rs rt imm
opposite i = i

abbrev pub is_branch : Instr → Type 0
is_branch (Beq rs rt imm) = Unit {0}
is_branch (Bne rs rt imm) = Unit {0}
is_branch i = ⊥

-- A comparison with register 0, which holds no return number: bne may read no return number, beq may compare two of them.
abbrev pub IsTest : Instr → Type 0
IsTest (Beq rs rt imm) = rt ≡ 0
IsTest (Bne rs rt imm) = rt ≡ 0
IsTest i = ⊥

-- The field names no block.
abbrev pub NoBlock : Fix → Type 0
NoBlock (Block t) = ⊥
NoBlock f = Unit {0}

-- An item of block b of p and that of its place in q: the same, where it names no block; what makes a return number makes one
-- that leads to the next block. Else it goes to where its block is led to; a branch may turn.
pub data ItemPlaced (p q : HardProgram) (place : ℕ → ℕ) (b : ℕ) (i j : Item) : Type 0 where
  same : j ≡ i → NoBlock i.fix → (makes_number i ≡ true → LeadsTo q place (place b + 1) (b + 1)) → ItemPlaced p q place b i j
  jumps : (t n target : ℕ) → i.fix ≡ Block t → i.instr ≡ J target → j ≡ record i { fix = Block n } → LeadsTo q place n t → ItemPlaced p q place b i j
  branches : (t n : ℕ) → i.fix ≡ Block t → is_branch i.instr → j ≡ record i { fix = Block n } → LeadsTo q place n t →
      LeadsTo q place (place b + 1) (b + 1) → ItemPlaced p q place b i j
  turns : (t n : ℕ) → i.fix ≡ Block t → IsTest i.instr → j ≡ record i { instr = opposite i.instr; fix = Block n } → LeadsTo q place n (b + 1) →
      LeadsTo q place (place b + 1) t → ItemPlaced p q place b i j

abbrev pub ItemsPlaced : (p q : HardProgram) (place : ℕ → ℕ) (b : ℕ) → List Item → List Item → Type 0
ItemsPlaced p q place b [] [] = Unit {0}
ItemsPlaced p q place b (i ∷ is) (j ∷ js) = ItemPlaced p q place b i j × ItemsPlaced p q place b is js
ItemsPlaced p q place b is js = ⊥

-- q is p with its blocks at other places.
pub record Renumbered (p q : HardProgram) (place : ℕ → ℕ) : Type 0 where
  pub first : place 0 ≡ 0
  pub ascends : (b c : ℕ) → b < c → place b < place c
  pub blocks : (b : ℕ) → b < length p.blocks → ItemsPlaced p q place b (items_of p b) (items_of q (place b))
  pub functions : (b f : ℕ) (i : Item) → Holds p b i → i.fix ≡ Function f → slice_index q.entries f ≡ place (slice_index p.entries f)
  -- a block that returns is followed in q by the numbers that stand for its return numbers
  pub returns : (b n rs : ℕ) (i : Item) → Holds p b i → i.instr ≡ Jr rs → 1 ≤ n → MayFollow p b n → MayFollow q (place b) (return_place place n)
  pub initial : q.initial ≡ p.initial
  pub memory : q.memory_words ≡ p.memory_words

-- What the law takes of a program: how its blocks go on, and registers that are there.
pub record Orderly (p : HardProgram) : Type 0 where
  pub lines : (b : ℕ) → b < length p.blocks → Lines p false (items_of p b)
  pub in_range : (b : ℕ) → Each (λ i. IsInRange i.instr) (items_of p b)

-- ---- data

-- A number as its other program has it: another where it is a return number.
abbrev pub renamed : (ℕ → ℕ) → Bool → ℕ → ℕ
renamed back mark n = if mark then back n else n

-- Words and their marks are the same, return numbers renamed; each return number is fine.
pub record SameWords (back : ℕ → ℕ) (Fine : ℕ → Type 0) (hb lb : ℕ → Bool) (hs ls : List ℕ) : Type 0 where
  pub there : length ls ≡ length hs
  pub same : (r : ℕ) → slice_index ls r ≡ renamed back (hb r) (slice_index hs r)
  pub marks : (r : ℕ) → lb r ≡ hb r
  pub fine : (r : ℕ) → hb r ≡ true → Fine (slice_index hs r)

pub record SameNumbers (back : ℕ → ℕ) (Fine : ℕ → Type 0) (d e : Data) : Type 0 where
  pub all : length d.regs ≡ 32
  pub zero : d.backs 0 ≡ false
  pub regs : SameWords back Fine d.backs e.backs d.regs e.regs
  pub memory : SameWords back Fine d.stored e.stored d.memory e.memory
  pub hi : e.hi ≡ d.hi
  pub lo : e.lo ≡ d.lo
  pub feed : e.feed ≡ d.feed
  pub fed : e.fed ≡ d.fed

-- ---- the law

-- The renumbered program runs the same, and lawfully.
abbrev pub RunsRenumbered : Type 0
RunsRenumbered = (p q : HardProgram) (place : ℕ → ℕ) (input : List ℕ) → Orderly p → Renumbered p q place → Always (items p) (first_spot p input) (LawfulAt p) →
    SameObserved (item_run q input) (item_run p input) × Always (items q) (first_spot q input) (LawfulAt q)
