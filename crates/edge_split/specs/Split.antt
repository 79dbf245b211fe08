-- The splitting of critical edges: each edge from a block with at least two successors to a block with at least two predecessors goes
-- through a block of its own, which only jumps on. The notion of a critical edge is that of Knoop, Rüthing and Steffen (Lazy code
-- motion, PLDI 1992).
use Rattle.std.specs.Prelude.{ℕ, ◌+◌, Bool, true, false, ◌==◌, ◌&&◌, ◌||◌, nat_le, nat_lt, if◌then◌else◌, Option, Some, None, List, [], ◌∷◌, ◌++◌, length, map}
use Rattle.mips_isa.specs.declared.instr.Instr.{Instr}
use Rattle.mips_isa.specs.declared.instr.Instr.TheVariants.{Jr}
use Rattle.hard_items.specs.declared.code.Item.{Item}
use Rattle.hard_items.specs.declared.code.HardBlock.{HardBlock}
use Rattle.hard_items.specs.declared.code.HardProgram.{HardProgram}
use Rattle.hard_items.specs.Run.{items_of, is_call}
use Rattle.block_relays.specs.Renumber.{return_place}
use Rattle.block_relays.specs.Relays.{Relays, Nothing, Next, Turned, Both, goals, place_of, put_item, relay}
use Rattle.far_branches.specs.Widen.{first_goal}

-- ---- which edges are critical

-- How often a list has a number.
abbrev pub times : ℕ → List ℕ → ℕ
times c [] = 0
times c (x ∷ xs) = (if x == c then 1 else 0) + times c xs

-- How many edges lead to a block.
abbrev pub arrivals : ℕ → List HardBlock → ℕ
arrivals c [] = 0
arrivals c (k ∷ ks) = times c k.successors + arrivals c ks

abbrev pub joins : HardProgram → ℕ → Bool
joins p c = nat_le 2 (arrivals c p.blocks)

-- Among the items is a return, or a call.
abbrev pub is_return : Instr → Bool
is_return (Jr rs) = true
is_return i = false

abbrev pub returns : List Item → Bool
returns [] = false
returns (i ∷ more) = is_return i.instr || returns more

abbrev pub calls : List Item → Bool
calls [] = false
calls (i ∷ more) = is_call i.instr || calls more

-- Some block that returns to more than one block returns to this one.
abbrev pub returns_two : HardBlock → Bool
returns_two k = returns k.items && nat_le 2 (length k.successors)

abbrev pub is_returned : ℕ → List HardBlock → Bool
is_returned c [] = false
is_returned c (k ∷ ks) = (returns_two k && nat_lt 0 (times c k.successors)) || is_returned c ks

-- ---- what becomes of a block

pub data Plan : Type 0 where
  -- it has no critical edge
  Keep : Plan
  -- it returns: its edges are split behind the calls
  Returns : Plan
  -- it calls, and the edge of the return to the next block is critical
  Calls : Plan
  -- its edge to the next block is critical
  Falls : Plan
  -- the edge to the goal of its branch is critical: the branch turns
  Turns : ℕ → Plan
  -- both edges of its branch are critical
  Forks : ℕ → Plan

-- By the edges of a branch that are critical: the one to the next block and the one to its goal.
abbrev pub branch_plan : (falls taken : Bool) → ℕ → Plan
branch_plan false false t = Keep
branch_plan true false t = Falls
branch_plan false true t = Turns t
branch_plan true true t = Forks t

-- Of a block that closes by no branch to another block than the next.
abbrev pub other_plan : (has_return has_call critical : Bool) → Plan
other_plan r c e = if r then Returns else (if c && e then Calls else Keep)

abbrev pub plan_by : HardProgram → ℕ → List Item → Option ℕ → Plan
plan_by p b items (Some t) = branch_plan (joins p (b + 1)) (joins p t) t
plan_by p b items None = other_plan (returns items) (calls items) (joins p (b + 1) && is_returned (b + 1) p.blocks)

abbrev pub plan_of : HardProgram → ℕ → Plan
plan_of p b = plan_by p b (items_of p b) (first_goal b (items_of p b))

-- The blocks that are put behind it.
abbrev pub relays_as : Plan → Relays
relays_as Keep = Nothing
relays_as Returns = Nothing
relays_as Calls = Next
relays_as Falls = Next
relays_as (Turns t) = Turned t
relays_as (Forks t) = Both t

abbrev pub edge_relays : HardProgram → ℕ → Relays
edge_relays p b = relays_as (plan_of p b)

-- ---- the program with its critical edges split

-- Where a block goes: behind the blocks before it and those that are put behind them.
abbrev pub split_place : HardProgram → ℕ → ℕ
split_place p = place_of (edge_relays p)

-- The block that comes for a successor of a block that falls into a block of its own.
abbrev pub fallen : (ℕ → ℕ) → (b c : ℕ) → ℕ
fallen place b c = if c == b + 1 then place b + 1 else place c

-- The successors of a block in its place.
abbrev pub successors_as : (ℕ → ℕ) → ℕ → Plan → List ℕ → List ℕ
successors_as place b Keep cs = map place cs
successors_as place b Returns cs = map (return_place place) cs
successors_as place b Calls cs = map place cs
successors_as place b Falls cs = map (fallen place b) cs
successors_as place b (Turns t) cs = (place b + 1) ∷ place (b + 1) ∷ []
successors_as place b (Forks t) cs = (place b + 1) ∷ (place b + 2) ∷ []

abbrev pub placed_block : (ℕ → ℕ) → ℕ → Plan → HardBlock → HardBlock
placed_block place b r k = record { items = map (put_item place b (relays_as r)) k.items; successors = successors_as place b r k.successors }

-- A block that only jumps on.
abbrev pub relay_block : (ℕ → ℕ) → ℕ → HardBlock
relay_block place c = record { items = relay place c; successors = place c ∷ [] }

-- The blocks, from block b on: each in its place, and those that are put behind it.
abbrev pub split_blocks : (ℕ → ℕ) → (ℕ → Plan) → ℕ → List HardBlock → List HardBlock
split_blocks place plans b [] = []
split_blocks place plans b (k ∷ more) = (placed_block place b (plans b) k ∷ map (relay_block place) (goals b (relays_as (plans b)))) ++
    split_blocks place plans (b + 1) more

abbrev pub smoothed : HardProgram → HardProgram
smoothed p = record {
  blocks = split_blocks (split_place p) (plan_of p) 0 p.blocks;
  entries = map (split_place p) p.entries;
  initial = p.initial;
  memory_words = p.memory_words;
}
