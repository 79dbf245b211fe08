-- The split form by lists, as it is built. It serves private contracts alone.
use Rattle.std.specs.Prelude.{◌<◌, ℕ, ◌+◌, Bool, true, false, ◌&&◌, nat_le, if◌then◌else◌, min, Option, Some, None, List, [], ◌∷◌, length, map, get_or, slice_set, All}
use Rattle.std.specs.List.{range_with_len}
use Rattle.hard_items.specs.declared.code.Fix.{Fix}
use Rattle.hard_items.specs.declared.code.Fix.TheVariants.{Block}
use Rattle.hard_items.specs.declared.code.Item.{Item}
use Rattle.hard_items.specs.declared.code.HardBlock.{HardBlock}
use Rattle.hard_items.specs.declared.code.HardProgram.{HardProgram}
use Rattle.far_branches.specs.Widen.{first_goal}
use Rattle.edge_split.specs.declared.plan.Plan as declared
use Rattle.edge_split.specs.declared.plan.Plan.TheVariants as made
use Rattle.edge_split.specs.Split.{Plan, Keep, Returns, Calls, Falls, Turns, Forks, branch_plan, other_plan, plan_of, returns, calls, returns_two}

-- The plan of a block as it is held.
abbrev pub plan_as : declared.Plan → Plan
plan_as made.Keep = Keep
plan_as made.Returns = Returns
plan_as made.Calls = Calls
plan_as made.Falls = Falls
plan_as (made.Turns t) = Turns t
plan_as (made.Forks t) = Forks t

-- ---- how many edges lead to a block, counted to two

abbrev pub one_more : ℕ → ℕ
one_more n = min 2 (n + 1)

abbrev pub counted : List ℕ → List ℕ → List ℕ
counted [] counts = counts
counted (s ∷ more) counts = counted more (slice_set counts s (one_more (get_or counts s 0)))

abbrev pub all_counted : List HardBlock → List ℕ → List ℕ
all_counted [] counts = counts
all_counted (k ∷ ks) counts = all_counted ks (counted k.successors counts)

abbrev pub joined : List ℕ → ℕ → Bool
joined counts c = nat_le 2 (get_or counts c 0)

-- ---- the blocks to which one returns that returns to more

abbrev pub marked : List ℕ → List Bool → List Bool
marked [] marks = marks
marked (s ∷ more) marks = marked more (slice_set marks s true)

abbrev pub all_marked : List HardBlock → List Bool → List Bool
all_marked [] marks = marks
all_marked (k ∷ ks) marks = all_marked ks (if returns_two k then marked k.successors marks else marks)

-- ---- plans

-- By the blocks that two edges lead to, and those to which one returns that returns to more.
abbrev pub goal_plan : (List ℕ) → (List Bool) → ℕ → List Item → Option ℕ → Plan
goal_plan counts marks b items (Some t) = branch_plan (joined counts (b + 1)) (joined counts t) t
goal_plan counts marks b items None = other_plan (returns items) (calls items) (joined counts (b + 1) && get_or marks (b + 1) false)

abbrev pub planned : (List ℕ) → (List Bool) → ℕ → List Item → Plan
planned counts marks b items = goal_plan counts marks b items (first_goal b items)

abbrev pub all_planned : (List ℕ) → (List Bool) → ℕ → List HardBlock → List Plan
all_planned counts marks b [] = []
all_planned counts marks b (k ∷ ks) = planned counts marks b k.items ∷ all_planned counts marks (b + 1) ks

-- The plans of a program's blocks.
abbrev pub plan_list : HardProgram → List Plan
plan_list p = map (plan_of p) (range_with_len 0 (length p.blocks))

-- How many blocks are put behind a block.
abbrev pub extra : Plan → ℕ
extra Keep = 0
extra Returns = 0
extra Calls = 1
extra Falls = 1
extra (Turns t) = 1
extra (Forks t) = 2

-- The places of blocks, and last how many blocks there are.
abbrev pub places_by : ℕ → List Plan → List ℕ
places_by at [] = at ∷ []
places_by at (r ∷ rs) = at ∷ places_by (at + 1 + extra r) rs

-- ---- what has a place

abbrev pub PlaceThere : ℕ → Fix → Type 0
PlaceThere n (Block t) = t < n
PlaceThere n fix = Unit {0}

-- All that a block names.
pub record AllThere (n : ℕ) (k : HardBlock) : Type 0 where
  pub items : All (λ i. PlaceThere n i.fix) k.items
  pub successors : All (λ c. c < n) k.successors

-- The goal of the branch that a plan splits.
abbrev pub GoalThere : ℕ → Plan → Type 0
GoalThere n Keep = Unit {0}
GoalThere n Returns = Unit {0}
GoalThere n Calls = Unit {0}
GoalThere n Falls = Unit {0}
GoalThere n (Turns t) = t < n
GoalThere n (Forks t) = t < n
