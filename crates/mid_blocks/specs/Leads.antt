-- That each end of a block of a program in blocks leads to blocks that are there.
use Rattle.std.specs.Prelude.{◌≡◌, ℕ, ◌+◌, ◌<◌, length, Option, Some, None, slice_get}
use Rattle.mid_blocks.specs.declared.code.MidEnd.{MidEnd}
use Rattle.mid_blocks.specs.declared.code.MidEnd.TheVariants.{Jump, Branch, Call, Return}
use Rattle.mid_blocks.specs.declared.code.MidBlock.{MidBlock}
use Rattle.mid_blocks.specs.declared.code.MidFunction.{MidFunction}
use Rattle.mid_blocks.specs.declared.code.Mid.{Mid}

-- the blocks of a function that may be there
abbrev pub blocks_of : Option MidFunction → ℕ
blocks_of None = 0
blocks_of (Some code) = length code.blocks

abbrev pub is_block : Mid → ℕ → ℕ → Type 0
is_block mid f block = block < blocks_of (slice_get mid.functions f)

-- the blocks to which the end of a block leads are there
abbrev pub EndInside : Mid → ℕ → ℕ → MidEnd → Type 0
EndInside mid f block (Jump to) = is_block mid f to
EndInside mid f block (Branch test when to) = is_block mid f to × is_block mid f (block + 1)
EndInside mid f block (Call function args result) = is_block mid function 0 × is_block mid f (block + 1)
EndInside mid f block (Return from) = Unit {0}

pub record LeadsInside (mid : Mid) : Type 0 where
  -- `main` has a block
  pub begins : is_block mid 0 0
  pub leads : (f block : ℕ) (code : MidFunction) (b : MidBlock) → slice_get mid.functions f ≡ Some code → slice_get code.blocks block ≡ Some b →
      EndInside mid f block b.end
