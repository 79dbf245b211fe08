-- The search for the blocks at whose start a variable is wanted.
use Rattle.std.specs.Prelude.{◌≡◌, ℕ, ◌+◌, ◌<◌, ◌++◌, Bool, true, false, not, List, length, count_by, Some, slice_get, slice_index_or}
use Rattle.std.specs.List.{Contains}
use Rattle.mid_blocks.specs.declared.code.MidBlock.{MidBlock}
use Rattle.mid_blocks.specs.declared.code.MidFunction.{MidFunction}
use Rattle.mid_blocks.specs.Lines.{block_lines, first_of}
use Rattle.mid_blocks.specs.Liveness.{IsWanted}
use Rattle.register_liveness.specs.declared.uses.FirstUse.TheVariants.{Untouched, Read}
use Rattle.register_liveness.specs.declared.search.Flow.{Flow}
use Rattle.register_liveness.specs.Uses.{first_use, successors, AreUses}
use Rattle.register_liveness.specs.Blocks.{AreFirsts, ArePredecessors}

-- what a function's blocks do and how they hang together
pub record IsFlow (f : MidFunction) (flow : Flow) : Type 0 where
  pub uses : AreUses f flow.uses.items
  pub leading : ArePredecessors f flow.leading.items
  pub firsts : AreFirsts f flow.firsts.items

-- the blocks at whose start a variable is wanted
pub record AreWantedAt (f : MidFunction) (v : ℕ) (blocks : List ℕ) : Type 0 where
  pub within : (b : ℕ) → Contains blocks b → b < length f.blocks
  pub sound : (b : ℕ) → Contains blocks b → IsWanted f v (first_of f b)
  pub complete : (b : ℕ) → b < length f.blocks → IsWanted f v (first_of f b) → Contains blocks b

abbrev pub IsMarked : List Bool → ℕ → Type 0
IsMarked marks b = slice_index_or marks b false ≡ true

-- a search on its way, with so many blocks looked at: the blocks found are those marked, and the variable is wanted at the start of each
pub record IsSearch (f : MidFunction) (v n : ℕ) (marks : List Bool) (found : List ℕ) : Type 0 where
  pub one_each : length marks ≡ n
  pub counted : count_by not marks + length found ≡ n
  pub found_marked : (b : ℕ) → Contains found b → IsMarked marks b
  pub marked_found : (b : ℕ) → IsMarked marks b → Contains found b
  pub sound : (b : ℕ) → Contains found b → IsWanted f v (first_of f b)
  pub seeds : (b : ℕ) (block : MidBlock) → b < n → slice_get f.blocks b ≡ Some block → first_use v (block_lines block) ≡ Read → IsMarked marks b

-- each block that leads to this one and doesn't touch the variable is marked
abbrev pub IsSpread : MidFunction → ℕ → List Bool → ℕ → Type 0
IsSpread f v marks b = (p : ℕ) (block : MidBlock) → slice_get f.blocks p ≡ Some block → Contains (successors p block.end) b →
    first_use v (block_lines block) ≡ Untouched → IsMarked marks p

-- a block that doesn't touch the variable is marked
abbrev pub IsPassed : MidFunction → ℕ → List Bool → ℕ → Type 0
IsPassed f v marks p = (block : MidBlock) → slice_get f.blocks p ≡ Some block → first_use v (block_lines block) ≡ Untouched → IsMarked marks p

-- if a block doesn't touch the variable, it is wanted at its start
abbrev pub IsBefore : MidFunction → ℕ → ℕ → Type 0
IsBefore f v p = (block : MidBlock) → slice_get f.blocks p ≡ Some block → first_use v (block_lines block) ≡ Untouched → IsWanted f v (first_of f p)

-- a search that goes on: marks stay, and more is found
pub record GoesOn (marks marks' : List Bool) (found found' : List ℕ) : Type 0 where
  pub kept : (b : ℕ) → IsMarked marks b → IsMarked marks' b
  pub more : List ℕ
  pub adds : found' ≡ found ++ more
