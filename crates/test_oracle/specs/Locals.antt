-- For private contracts alone: the variables of a call.
use Rattle.std.specs.Prelude.{ℕ, List, Option, None, slice_index_or}
use Rattle.mid_blocks.specs.Run.{Variables}

-- a variable behind the words that are kept has none
abbrev pub variables_of : List (Option ℕ) → Variables
variables_of words v = slice_index_or words v None
