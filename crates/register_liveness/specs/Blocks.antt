-- How the blocks of a function hang together.
use Rattle.std.specs.Prelude.{◌≡◌, ℕ, ◌<◌, ◌⊎◌, List, [], length, Some, slice_get, slice_index, slice_index_or}
use Rattle.std.specs.List.{Contains}
use Rattle.mid_blocks.specs.declared.code.MidBlock.{MidBlock}
use Rattle.mid_blocks.specs.declared.code.MidFunction.{MidFunction}
use Rattle.mid_blocks.specs.Lines.{first_of}
use Rattle.register_liveness.specs.Uses.{successors}

-- the first position of each block
pub record AreFirsts (f : MidFunction) (firsts : List ℕ) : Type 0 where
  pub one_each : length firsts ≡ length f.blocks
  pub each : (b : ℕ) → b < length f.blocks → slice_index firsts b ≡ first_of f b

-- the block is added to each of these lists
pub record AreAdded (block : ℕ) (to : List ℕ) (before after : List (List ℕ)) : Type 0 where
  pub same_length : length after ≡ length before
  pub kept : (b q : ℕ) → Contains (slice_index_or before b []) q → Contains (slice_index_or after b []) q
  pub added : (b : ℕ) → Contains to b → Contains (slice_index_or after b []) block
  pub only : (b q : ℕ) → Contains (slice_index_or after b []) q → Contains (slice_index_or before b []) q ⊎ ((q ≡ block) × Contains to b)

-- a block is followed by another
abbrev pub LeadsTo : MidFunction → ℕ → ℕ → Type 0
LeadsTo f b s = (block : MidBlock) × (slice_get f.blocks b ≡ Some block) × Contains (successors b block.end) s

-- the blocks that lead to each block
pub record ArePredecessors (f : MidFunction) (lists : List (List ℕ)) : Type 0 where
  pub one_each : length lists ≡ length f.blocks
  pub sound : (b p : ℕ) → Contains (slice_index_or lists b []) p → LeadsTo f p b
  pub complete : (b p : ℕ) → LeadsTo f p b → Contains (slice_index_or lists b []) p
