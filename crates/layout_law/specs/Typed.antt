-- The words of a guarded program with heads keep the ten rules of the lint.
use Rattle.std.specs.Prelude.{◌≡◌, ℕ, List, length}
use Rattle.hard_runs.specs.Stepping.{Always}
use Rattle.mips_faults.specs.Faults.{Placed, Unreported}
use Rattle.harden_lint.specs.Rules.{WellTyped}
use Rattle.hard_items.specs.declared.code.Signed.{Signed}
use Rattle.hard_items.specs.Heads.{headed}
use Rattle.hard_items.specs.declared.code.HardProgram.{HardProgram}
use Rattle.hard_items.specs.Run.{items, first_spot}
use Rattle.hard_words.specs.Words.{AreWords}
use Rattle.hard_items.specs.Rules.{Guarded, LawfulAt, NeverReports}
use Rattle.layout_law.specs.Layout.{text, image}
use Rattle.layout_law.specs.Level.{Laying, Layable, Entered}

-- All ten, at every address; of the marks only that there is one for each block.
abbrev pub WordsAreTyped : Type 0
WordsAreTyped = (s : Signed) → Laying s → length s.marks ≡ length s.program.blocks → Guarded s.program → WellTyped (text (headed s)) 0x00400000

-- Where each item is lawful, each word that comes next is placed: loads and stores at addresses of their stream, returns to starts,
-- no exception. Where no item reports, no word does.
abbrev pub LaidPlaced : Type 0
LaidPlaced = (p : HardProgram) (input : List ℕ) → Layable p → Entered p → Always (items p) (first_spot p input) (LawfulAt p) → Placed (image p) input

abbrev pub LaidUnreported : Type 0
LaidUnreported = (p : HardProgram) (input : List ℕ) → Layable p → Entered p → AreWords input → Always (items p) (first_spot p input) (LawfulAt p) →
    NeverReports p → Unreported (image p) input
