-- The far form of branches: in a function of more than 30,000 words, heads counted, a conditional branch to another block than the
-- next becomes the opposite branch to the block behind a block of its own, which jumps there.
use Rattle.std.specs.Prelude.{ℕ, ◌+◌, Bool, true, false, ◌==◌, ◌&&◌, nat_lt, nat_le, if◌then◌else◌, Option, Some, None, zero, suc, List, [], ◌∷◌, ◌++◌, length, map, max}
use Rattle.hard_items.specs.declared.code.Fix.{Fix}
use Rattle.hard_items.specs.declared.code.Fix.TheVariants.{Block}
use Rattle.hard_items.specs.declared.code.Item.{Item}
use Rattle.hard_items.specs.declared.code.HardBlock.{HardBlock}
use Rattle.hard_items.specs.declared.code.HardProgram.{HardProgram}
use Rattle.hard_items.specs.Run.{items_of}
use Rattle.hard_items.specs.Counts.{is_conditional}
use Rattle.block_relays.specs.Relays.{Relays, Nothing, Turned, place_of, put_item, relay, HasRelays}

-- The first block of the function that holds a block: the greatest entry that isn't above it.
abbrev pub function_start : List ℕ → ℕ → ℕ
function_start [] b = 0
function_start (e ∷ entries) b = if nat_le e b then max e (function_start entries b) else function_start entries b

-- How many words the blocks of a list take, a head counted for each, that are numbered from b and are of the function that starts
-- at a block.
abbrev pub words_of : List ℕ → (start b : ℕ) → List HardBlock → ℕ
words_of entries start b [] = 0
words_of entries start b (k ∷ more) = (if function_start entries b == start then length k.items + 7 else 0) + words_of entries start (b + 1) more

abbrev pub is_large : HardProgram → ℕ → Bool
is_large p b = nat_lt 30000 (words_of p.entries (function_start p.entries b) 0 p.blocks)

-- The block that the item branches to, if it is a conditional branch to a block.
abbrev pub goal_of : Fix → Option ℕ
goal_of (Block t) = Some t
goal_of fix = None

abbrev pub far_goal : (b : ℕ) → Option ℕ → Option ℕ
far_goal b None = None
far_goal b (Some t) = if t == b + 1 then None else Some t

abbrev pub branch_goal : (b : ℕ) → Item → Option ℕ
branch_goal b i = if is_conditional i.instr then far_goal b (goal_of i.fix) else None

abbrev pub first_of : Option ℕ → Option ℕ → Option ℕ
first_of (Some t) o = Some t
first_of None o = o

-- The goal of the branch of a block, where it is another than the next block.
abbrev pub first_goal : (b : ℕ) → List Item → Option ℕ
first_goal b [] = None
first_goal b (i ∷ more) = first_of (branch_goal b i) (first_goal b more)

abbrev pub far_of : HardProgram → ℕ → Option ℕ
far_of p b = if is_large p b then first_goal b (items_of p b) else None

-- What the far form puts behind a block.
abbrev pub far_as : Option ℕ → Relays
far_as None = Nothing
far_as (Some t) = Turned t

abbrev pub far_relays : HardProgram → ℕ → Relays
far_relays p b = far_as (far_of p b)

-- ---- the far form of a program

-- Where a block goes: behind the blocks before it and those of the far branches among them.
abbrev pub far_place : HardProgram → ℕ → ℕ
far_place p = place_of (far_relays p)

-- A block in its place, and the block that jumps on for it, if its branch is far.
abbrev pub far_block : (ℕ → ℕ) → ℕ → Option ℕ → HardBlock → List HardBlock
far_block place b None k = record { items = map (put_item place b Nothing) k.items; successors = map place k.successors } ∷ []
far_block place b (Some t) k = record { items = map (put_item place b (Turned t)) k.items; successors = (place b + 1) ∷ place (b + 1) ∷ [] } ∷
    record { items = relay place t; successors = place t ∷ [] } ∷ []

-- The blocks, from block b on, by the goals of their far branches.
abbrev pub far_blocks : (ℕ → ℕ) → (ℕ → Option ℕ) → ℕ → List HardBlock → List HardBlock
far_blocks place far b [] = []
far_blocks place far b (k ∷ more) = far_block place b (far b) k ++ far_blocks place far (b + 1) more

abbrev pub widened : HardProgram → HardProgram
widened p = record { blocks = far_blocks (far_place p) (far_of p) 0 p.blocks; entries = map (far_place p) p.entries; initial = p.initial; memory_words = p.memory_words }

-- q is p with the blocks of its far branches.
abbrev pub Widened : HardProgram → HardProgram → Type 0
Widened p q = HasRelays (far_relays p) p q
