-- What a doubled program does.
use Rattle.std.specs.Prelude.{◌≡◌, ◌<◌, ℕ, ◌^◌, List, Some, length, slice_get, All}
use Rattle.hard_runs.specs.Observed.{SameObserved}
use Rattle.hard_words.specs.Words.{AreWords}
use Rattle.hard_runs.specs.Stepping.{Always}
use Rattle.mid_blocks.specs.declared.code.MidStep.TheVariants.{Constant}
use Rattle.mid_blocks.specs.declared.code.MidBlock.{MidBlock}
use Rattle.mid_blocks.specs.declared.code.MidFunction.{MidFunction}
use Rattle.mid_blocks.specs.declared.code.Mid.{Mid}
use Rattle.mid_blocks.specs.declared.places.Places.{Places}
use Rattle.mid_blocks.specs.Liveness.{PlacesFit}
use Rattle.mid_blocks.specs.Valid.{Valid}
use Rattle.mid_blocks.specs.Bounds.{Shallow, Proper}
use Rattle.hard_items.specs.declared.code.HardProgram.{HardProgram}
use Rattle.hard_items.specs.Run.{items, items_of, first_spot, item_run}
use Rattle.hard_items.specs.Forms.{AreBare}
use Rattle.hard_items.specs.Rules.{LawfulAt, AgreesAt, NeverReports}
use Rattle.double_law.specs.Program.{IsDoubled}
use Rattle.double_law.specs.Runs.{blocks_seen}
use Rattle.mid_blocks.specs.Words.{HasWords}

-- The places of each function are there and fit.
abbrev pub AllFit : Mid → List Places → Type 0
AllFit mid places = (n : ℕ) (f : MidFunction) → slice_get mid.functions n ≡ Some f → (at : Places) × (slice_get places n ≡ Some at) × PlacesFit f at

-- What is doubled: a valid program that reads only what was written, whose calls have room, with its variables in places that
-- fit; and what it becomes.
pub record Doubles (mid : Mid) (places : List Places) (p : HardProgram) : Type 0 where
  pub valid : Valid mid
  pub shallow : Shallow mid
  pub proper : Proper mid
  pub words : HasWords mid
  pub fit : AllFit mid places
  pub emitted : IsDoubled mid places p

-- The doubled program does what the program in blocks does, on each input of words.
abbrev pub RunsAsBlocks : Mid → HardProgram → Type 0
RunsAsBlocks mid p = (input : List ℕ) → AreWords input → SameObserved (item_run p input) (blocks_seen mid input)

-- Each item is lawful where it comes next; where a use comes next the registers of its checks hold the same; no run reports; and
-- each block is made of forms that fit and have no checks yet.
pub record RunsInTwos (p : HardProgram) : Type 0 where
  pub lawful : (input : List ℕ) → AreWords input → Always (items p) (first_spot p input) (LawfulAt p)
  pub agrees : (input : List ℕ) → AreWords input → Always (items p) (first_spot p input) AgreesAt
  pub never_reports : NeverReports p
  pub bare : (b : ℕ) → b < length p.blocks → AreBare (items_of p b)

-- The law of doubled programs.
abbrev pub DoubledRuns : Type 0
DoubledRuns = (mid : Mid) (places : List Places) (p : HardProgram) → Doubles mid places p → RunsAsBlocks mid p × RunsInTwos p
