-- A program with blocks put behind its blocks that only jump on: the form that the far form of branches and the splitting of edges
-- have in common. The notion is the project's own.
use Rattle.std.specs.Prelude.{◌≡◌, ◌⊎◌, ℕ, zero, suc, ◌+◌, false, List, [], ◌∷◌, ◌++◌, length, map}
use Rattle.mips_isa.specs.declared.instr.Instr.{Instr}
use Rattle.mips_isa.specs.declared.instr.Instr.TheVariants.{J, Jr}
use Rattle.hard_items.specs.declared.code.Fix.{Fix}
use Rattle.hard_items.specs.declared.code.Fix.TheVariants.{Plain, Block, Function, ReturnHigh, ReturnLow}
use Rattle.hard_items.specs.declared.code.Item.{Item}
use Rattle.hard_items.specs.declared.code.HardBlock.{HardBlock}
use Rattle.hard_items.specs.declared.code.HardProgram.{HardProgram}
use Rattle.hard_items.specs.Run.{makes_number}
use Rattle.hard_items.specs.Ways.{Holds, MayFollow, IsOfFunction, CallsFunction}
use Rattle.hard_items.specs.Forms.{Jump, close_items}
use Rattle.block_relays.specs.Renumber.{opposite, is_branch, IsTest}

-- What is put behind a block.
pub data Relays : Type 0 where
  -- nothing
  Nothing : Relays
  -- a jump to the next block
  Next : Relays
  -- the block's branch to a block turns, and a jump there is put
  Turned : ℕ → Relays
  -- a jump to the next block, and behind it one to the goal of the block's branch
  Both : ℕ → Relays

-- The goals of the blocks that are put behind block b.
abbrev pub goals : ℕ → Relays → List ℕ
goals b Nothing = []
goals b Next = (b + 1) ∷ []
goals b (Turned t) = t ∷ []
goals b (Both t) = (b + 1) ∷ t ∷ []

-- Where a block goes: behind the blocks before it and those that are put behind them.
abbrev pub place_of : (ℕ → Relays) → ℕ → ℕ
place_of relays zero = 0
place_of relays (suc b) = place_of relays b + suc (length (goals b (relays b)))

-- The block to which the field of an item of block b leads that named block t.
abbrev pub goal_place : (ℕ → ℕ) → (b : ℕ) → Relays → (t : ℕ) → ℕ
goal_place place b Nothing t = place t
goal_place place b Next t = place t
goal_place place b (Turned u) t = place (b + 1)
goal_place place b (Both u) t = place b + 2

abbrev pub turned : Relays → Instr → Instr
turned Nothing i = i
turned Next i = i
turned (Turned t) i = opposite i
turned (Both t) i = i

-- An item in its place.
abbrev pub put_as : (ℕ → ℕ) → (b : ℕ) → Relays → Item → Fix → Item
put_as place b r i Plain = i
put_as place b r i (Block t) = record i { instr = turned r i.instr; fix = Block (goal_place place b r t) }
put_as place b r i (Function f) = i
put_as place b r i ReturnHigh = i
put_as place b r i ReturnLow = i

abbrev pub put_item : (ℕ → ℕ) → (b : ℕ) → Relays → Item → Item
put_item place b r i = put_as place b r i i.fix

-- A block that only jumps.
abbrev pub relay : (ℕ → ℕ) → ℕ → List Item
relay place c = close_items (Jump (place c))

-- The items of the blocks, from block b on.
abbrev pub put_blocks : (ℕ → Relays) → (ℕ → ℕ) → (b : ℕ) → List HardBlock → List (List Item)
put_blocks relays place b [] = []
put_blocks relays place b (k ∷ more) = map (put_item place b (relays b)) k.items ∷ (map (relay place) (goals b (relays b)) ++ put_blocks relays place (b + 1) more)

-- q is p with blocks put behind its blocks.
pub record HasRelays (relays : ℕ → Relays) (p q : HardProgram) : Type 0 where
  pub blocks : map (λ k. k.items) q.blocks ≡ put_blocks relays (place_of relays) 0 p.blocks
  pub entries : q.entries ≡ map (place_of relays) p.entries
  pub initial : q.initial ≡ p.initial
  pub memory : q.memory_words ≡ p.memory_words

-- An item that names a block fits what is put behind its block.
abbrev pub RelaysFit : (r : Relays) → Item → ℕ → Type 0
RelaysFit Nothing i t = Unit {0}
RelaysFit Next i t = Unit {0}
RelaysFit (Turned u) i t = IsTest i.instr × (u ≡ t)
RelaysFit (Both u) i t = is_branch i.instr × (u ≡ t)

-- What the blocks put may stand behind. A block whose branch turns makes no return number.
pub record MayRelay (relays : ℕ → Relays) (p : HardProgram) : Type 0 where
  pub goes : (b t : ℕ) (i : Item) → Holds p b i → i.fix ≡ Block t → ((target : ℕ) × (i.instr ≡ J target)) ⊎ is_branch i.instr
  pub fits : (b t : ℕ) (i : Item) → Holds p b i → i.fix ≡ Block t → RelaysFit (relays b) i t
  pub no_number : (b t : ℕ) (i : Item) → Holds p b i → relays b ≡ Turned t → makes_number i ≡ false
  pub returns : (b n rs : ℕ) (i : Item) → Holds p b i → i.instr ≡ Jr rs → MayFollow p b n → (f caller : ℕ) × (n ≡ caller + 1) × IsOfFunction p b f ×
      CallsFunction p caller f
