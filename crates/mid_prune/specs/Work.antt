-- The search of the blocks that can be reached, as it goes on; these definitions serve private contracts alone.
use Rattle.std.specs.Prelude.{◌≡◌, ◌⊎◌, ℕ, ◌+◌, ◌<◌, Bool, true, if◌then◌else◌, List, [], ◌∷◌, ◌++◌, length, Some, slice_get, slice_set}
use Rattle.mid_blocks.specs.declared.code.MidEnd.{MidEnd}
use Rattle.mid_blocks.specs.declared.code.MidEnd.TheVariants.{Jump, Branch, Call, Return}
use Rattle.mid_blocks.specs.declared.code.MidBlock.{MidBlock}
use Rattle.mid_blocks.specs.declared.code.MidFunction.{MidFunction}
use Rattle.mid_blocks.specs.declared.code.Mid.{Mid}
use Rattle.mid_blocks.specs.Pruned.{marks_of, is_marked_block, leads_to_marked, ReachedIn}
use Rattle.mid_prune.specs.declared.reaching.Spot.{Spot}
use Rattle.mid_blocks.specs.Leads.{blocks_of}

-- the marks, and the blocks that are marked and wait to be followed
pub record Work : Type 0 where
  pub marks : List (List Bool)
  pub waiting : List Spot

abbrev pub work : List (List Bool) → List Spot → Work
work marks waiting = record { marks = marks; waiting = waiting }

-- there is a mark of this block
abbrev pub IsThere : List (List Bool) → ℕ → ℕ → Type 0
IsThere marks f block = (f < length marks) × (block < length (marks_of marks f))

abbrev pub EndThere : List (List Bool) → ℕ → ℕ → MidEnd → Type 0
EndThere marks f block (Jump to) = IsThere marks f to
EndThere marks f block (Branch test when to) = IsThere marks f to × IsThere marks f (block + 1)
EndThere marks f block (Call function args result) = IsThere marks function 0 × IsThere marks f (block + 1)
EndThere marks f block (Return from) = Unit {0}

abbrev pub raised : List (List Bool) → ℕ → ℕ → List (List Bool)
raised marks f block = slice_set marks f (slice_set (marks_of marks f) block true)

-- a block that isn't marked yet is marked, and waits
abbrev pub put : ℕ → ℕ → Work → Work
put f block w =
    if is_marked_block w.marks f block then w
    else record { marks = raised w.marks f block; waiting = w.waiting ++ record { function = f; block = block } ∷ [] }

-- where the end of a block leads to is put
abbrev pub followed : ℕ → ℕ → MidEnd → Work → Work
followed f block (Jump to) w = put f to w
followed f block (Branch test when to) w = put f (block + 1) (put f to w)
followed f block (Call function args result) w = put f (block + 1) (put function 0 w)
followed f block (Return from) w = w

-- whether a block waits
abbrev pub Waits : List Spot → ℕ → ℕ → Type 0
Waits [] f block = ⊥
Waits (s ∷ ss) f block = ((s.function ≡ f) × (s.block ≡ block)) ⊎ Waits ss f block

-- what holds as the search goes on
pub record Working (mid : Mid) (w : Work) : Type 0 where
  -- each block has a mark
  pub shape : (f : ℕ) → length (marks_of w.marks f) ≡ blocks_of (slice_get mid.functions f)
  pub main : is_marked_block w.marks 0 0 ≡ true
  pub first : (f block : ℕ) → is_marked_block w.marks f block ≡ true → is_marked_block w.marks f 0 ≡ true
  pub reached : (f block : ℕ) → is_marked_block w.marks f block ≡ true → ReachedIn mid f block
  pub waiting : (f block : ℕ) → Waits w.waiting f block → is_marked_block w.marks f block ≡ true
  -- where a marked block leads to is marked, or it waits
  pub followed : (f block : ℕ) (code : MidFunction) (b : MidBlock) → slice_get mid.functions f ≡ Some code → slice_get code.blocks block ≡ Some b →
      is_marked_block w.marks f block ≡ true → Waits w.waiting f block ⊎ (leads_to_marked w.marks f block b.end ≡ true)
