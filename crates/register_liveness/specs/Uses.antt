-- What lines do first with a variable, and where a block may lead.
use Rattle.std.specs.Prelude.{◌≡◌, ◌<◌, length, slice_get, slice_index_or, ℕ, ◌+◌, Bool, false, ◌||◌, ◌==◌, if◌then◌else◌, List, [], ◌∷◌, Option, Some, None}
use Rattle.mid_blocks.specs.declared.code.MidEnd.{MidEnd}
use Rattle.mid_blocks.specs.declared.code.MidEnd.TheVariants.{Jump, Branch, Call, Return}
use Rattle.mid_blocks.specs.declared.code.MidBlock.{MidBlock}
use Rattle.mid_blocks.specs.declared.code.MidFunction.{MidFunction}
use Rattle.mid_blocks.specs.Lines.{Line, line_reads, line_writes, block_lines}
use Rattle.register_liveness.specs.declared.uses.FirstUse.{FirstUse}
use Rattle.register_liveness.specs.declared.uses.FirstUse.TheVariants.{Untouched, Read, Written}

-- whether a variable is among these
abbrev pub is_among : List ℕ → ℕ → Bool
is_among [] v = false
is_among (x ∷ xs) v = (x == v) || is_among xs v

abbrev pub is_it : Option ℕ → ℕ → Bool
is_it None v = false
is_it (Some w) v = w == v

-- what a line does first with a variable: it reads before it writes
abbrev pub line_use : ℕ → Line → FirstUse
line_use v line = if is_among (line_reads line) v then Read else (if is_it (line_writes line) v then Written else Untouched)

abbrev pub then_use : FirstUse → FirstUse → FirstUse
then_use Untouched later = later
then_use Read later = Read
then_use Written later = Written

abbrev pub first_use : ℕ → List Line → FirstUse
first_use v [] = Untouched
first_use v (line ∷ lines) = then_use (line_use v line) (first_use v lines)

-- the blocks to which a block may lead
abbrev pub successors : ℕ → MidEnd → List ℕ
successors block (Jump to) = to ∷ []
successors block (Branch test when to) = (block + 1) ∷ to ∷ []
successors block (Call function args result) = (block + 1) ∷ []
successors block (Return from) = []

-- the first use of each variable in a block
pub record IsRow (f : MidFunction) (b : ℕ) (row : List FirstUse) : Type 0 where
  pub one_each : length row ≡ f.variables
  pub each : (block : MidBlock) → slice_get f.blocks b ≡ Some block → (v : ℕ) → v < f.variables → slice_index_or row v Untouched ≡ first_use v (block_lines block)

-- the rows of all blocks
pub record AreUses (f : MidFunction) (uses : List (List FirstUse)) : Type 0 where
  pub one_each : length uses ≡ length f.blocks
  pub rows : (b : ℕ) → b < length f.blocks → IsRow f b (slice_index_or uses b [])
