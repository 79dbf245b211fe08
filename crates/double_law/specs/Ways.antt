-- The blocks that may come behind each block of a doubled program.
use Rattle.std.specs.Prelude.{◌≡◌, ℕ, ◌+◌, Bool, false, ◌==◌, nat_lt, if◌then◌else◌, List, [], ◌∷◌, ◌++◌, flat_map, Some, slice_get}
use Rattle.mid_blocks.specs.declared.code.MidEnd.{MidEnd}
use Rattle.mid_blocks.specs.declared.code.MidEnd.TheVariants.{Jump, Branch, Call, Return}
use Rattle.mid_blocks.specs.declared.code.MidBlock.{MidBlock}
use Rattle.mid_blocks.specs.declared.code.MidFunction.{MidFunction}
use Rattle.mid_blocks.specs.declared.code.Mid.{Mid}
use Rattle.hard_items.specs.declared.code.HardBlock.{HardBlock}
use Rattle.hard_items.specs.declared.code.HardProgram.{HardProgram}
use Rattle.double_law.specs.Program.{first_block}

-- The end calls the function.
abbrev pub calls : ℕ → MidEnd → Bool
calls f (Jump to) = false
calls f (Branch v when to) = false
calls f (Call g args result) = g == f
calls f (Return from) = false

-- The numbers of the blocks behind those that call a function, among some blocks of which the first has this number.
abbrev pub behind_calls : ℕ → ℕ → List MidBlock → List ℕ
behind_calls f k [] = []
behind_calls f k (b ∷ bs) = (if calls f b.end then (k + 1) ∷ [] else []) ++ behind_calls f (k + 1) bs

-- The blocks of all functions in order.
abbrev pub all_blocks : List MidFunction → List MidBlock
all_blocks functions = flat_map (λ f. f.blocks) functions

-- Where a function returns to: block 0 calls function 0.
abbrev pub returns_to : Mid → ℕ → List ℕ
returns_to mid f = (if f == 0 then 1 ∷ [] else []) ++ behind_calls f 2 (all_blocks mid.functions)

-- Two numbers, ascending and each once.
abbrev pub in_order : ℕ → ℕ → List ℕ
in_order x y = if nat_lt x y then x ∷ y ∷ [] else (if nat_lt y x then y ∷ x ∷ [] else x ∷ [])

-- The blocks behind a block of a function, by its end.
abbrev pub successors : Mid → ℕ → ℕ → MidEnd → List ℕ
successors mid n b (Jump to) = (first_block mid n + to) ∷ []
successors mid n b (Branch v when to) = in_order (first_block mid n + to) (first_block mid n + b + 1)
successors mid n b (Call g args result) = first_block mid g ∷ []
successors mid n b (Return from) = returns_to mid n

-- Each block of the program names the blocks behind it.
pub record NamesWays (mid : Mid) (p : HardProgram) : Type 0 where
  pub first : (y : HardBlock) → slice_get p.blocks 0 ≡ Some y → y.successors ≡ first_block mid 0 ∷ []
  pub exit : (y : HardBlock) → slice_get p.blocks 1 ≡ Some y → y.successors ≡ []
  pub block : (n b : ℕ) (f : MidFunction) (x : MidBlock) (y : HardBlock) → slice_get mid.functions n ≡ Some f →
      slice_get f.blocks b ≡ Some x → slice_get p.blocks (first_block mid n + b) ≡ Some y → y.successors ≡ successors mid n b x.end
