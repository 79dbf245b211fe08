-- The words of a program in blocks.
use Rattle.std.specs.Prelude.{◌≡◌, ◌<◌, ℕ, ◌^◌, Some, slice_get, All}
use Rattle.hard_words.specs.Words.{AreWords}
use Rattle.mid_blocks.specs.declared.code.MidStep.TheVariants.{Constant}
use Rattle.mid_blocks.specs.declared.code.MidBlock.{MidBlock}
use Rattle.mid_blocks.specs.declared.code.MidFunction.{MidFunction}
use Rattle.mid_blocks.specs.declared.code.Mid.{Mid}

-- The words of a program in blocks are words.
pub record HasWords (mid : Mid) : Type 0 where
  pub constants : (n b k to w : ℕ) (f : MidFunction) (block : MidBlock) → slice_get mid.functions n ≡ Some f →
      slice_get f.blocks b ≡ Some block → slice_get block.steps k ≡ Some (Constant to w) → w < 2 ^ 32
  pub globals : All AreWords mid.globals
