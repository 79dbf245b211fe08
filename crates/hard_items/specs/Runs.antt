-- Two programs of items that run the same.
use Rattle.std.specs.Prelude.{ℕ, List}
use Rattle.hard_runs.specs.Observed.{SameObserved}
use Rattle.hard_words.specs.Words.{AreWords}
use Rattle.hard_items.specs.declared.code.HardProgram.{HardProgram}
use Rattle.hard_items.specs.Run.{item_run}

-- The second program runs the same as the first, observed from outside, on each input of words.
abbrev pub SameRuns : HardProgram → HardProgram → Type 0
SameRuns p q = (input : List ℕ) → AreWords input → SameObserved (item_run q input) (item_run p input)
