-- What emitting a program asks of its parts, and what the tables over it are. These definitions serve private contracts alone.
use Rattle.std.specs.Prelude.{◌≡◌, ◌≤◌, ◌<◌, ℕ, ◌+◌, ◌-◌, ◌^◌, List, [], ◌∷◌, length, All, Some, None, slice_get, slice_index, slice_index_or}
use Rattle.mid_blocks.specs.declared.code.MidEnd.{MidEnd}
use Rattle.mid_blocks.specs.declared.code.MidEnd.TheVariants.{Jump, Branch, Call, Return}
use Rattle.mid_blocks.specs.declared.code.MidBlock.{MidBlock}
use Rattle.mid_blocks.specs.declared.code.MidFunction.{MidFunction}
use Rattle.mid_blocks.specs.declared.code.Mid.{Mid}
use Rattle.mid_blocks.specs.declared.places.Places.{Places}
use Rattle.double_law.specs.Program.{first_block}
use Rattle.double_law.specs.Ways.{in_order, returns_to}
use Rattle.duplicate_pass.specs.Emits.{AreSmall, IsNamed, EndFits, CallsBelow}

-- ---- tables

-- The first block of each function, and the blocks to which it returns.
pub record AreTables (mid : Mid) (firsts : List ℕ) (returns : List (List ℕ)) : Type 0 where
  pub firsts_long : length firsts ≡ length mid.functions
  pub returns_long : length returns ≡ length mid.functions
  pub first : (n : ℕ) → n < length mid.functions → slice_index firsts n ≡ first_block mid n
  pub return : (n : ℕ) → n < length mid.functions → slice_index_or returns n [] ≡ returns_to mid n

-- The blocks that may come behind a block, by the tables.
abbrev pub successors_by : List ℕ → List (List ℕ) → (n b : ℕ) → MidEnd → List ℕ
successors_by firsts returns n b (Jump to) = (slice_index firsts n + to) ∷ []
successors_by firsts returns n b (Branch test when to) = in_order (slice_index firsts n + to) (b + 1)
successors_by firsts returns n b (Call function args result) = slice_index firsts function ∷ []
successors_by firsts returns n b (Return from) = slice_index_or returns n []

-- ---- parts

-- What the end of a block of a function asks, which has this number among all blocks.
pub record EndReady (firsts : List ℕ) (returns : List (List ℕ)) (n b : ℕ) (end : MidEnd) : Type 0 where
  pub first : n < length firsts
  pub return : n < length returns
  pub next : b < 2 ^ 32 - 1
  pub fits : EndFits (slice_index firsts n) end
  pub calls : CallsBelow (length firsts) end

-- What a block asks, whose function begins at this one.
pub record BlockReady (count first : ℕ) (addresses : List ℕ) (k : MidBlock) : Type 0 where
  pub steps : All (λ step. IsNamed addresses step) k.steps
  pub end : EndFits first k.end
  pub calls : CallsBelow count k.end

-- What a function asks, among so many, which begins at this block.
pub record FunctionReady (count first : ℕ) (addresses : List ℕ) (f : MidFunction) (at : Places) : Type 0 where
  pub small : AreSmall at
  pub params : f.params < f.pairs
  pub pairs : f.pairs ≤ 4002
  pub few : first + length f.blocks < 2 ^ 32
  pub blocks : All (BlockReady count first addresses) f.blocks

-- Each function has its places and is ready.
abbrev pub AllReady : Mid → List ℕ → List Places → Type 0
AllReady mid addresses places = (n : ℕ) (f : MidFunction) → slice_get mid.functions n ≡ Some f →
    (at : Places) × (slice_get places n ≡ Some at) × FunctionReady (length mid.functions) (first_block mid n) addresses f at

-- The block of a number in its function.
abbrev pub block_at : MidFunction → ℕ → MidBlock
block_at f b = slice_index_or f.blocks b (record { steps = []; end = Return None })
