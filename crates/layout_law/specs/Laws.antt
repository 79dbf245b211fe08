-- What the words of a signed program keep: the run of its items, the signatures, the rules of the lint, and where its blocks begin.
use Rattle.std.specs.Prelude.{◌≡◌, ◌<◌, ◌↔◌, ℕ, ◌+◌, ◌*◌, None, List, length}
use Rattle.hard_runs.specs.Observed.{SameObserved}
use Rattle.hard_runs.specs.Stepping.{Always}
use Rattle.hard_words.specs.Words.{AreWords}
use Rattle.mips_isa.specs.Runs.{observed}
use Rattle.mips_isa.specs.Image.{boot_state}
use Rattle.mips_faults.specs.Faults.{Placed, Unreported}
use Rattle.mips_text.specs.Blocks.{IsStart}
use Rattle.hard_items.specs.declared.code.Signed.{Signed}
use Rattle.hard_items.specs.Heads.{headed, signed_run}
use Rattle.hard_items.specs.Run.{items, first_spot, item_run}
use Rattle.hard_items.specs.Rules.{LawfulAt, NeverReports}
use Rattle.sign_law.specs.Marks.{HasSigns}
use Rattle.layout_law.specs.Layout.{words, address, text, image}
use Rattle.layout_law.specs.Level.{Laying, InStep, MarksFit}
use Rattle.layout_law.specs.Signs.{Follows}

-- A signed program that can be laid out, with the marks of its graph; in each of its runs each item is lawful, and none reports.
pub record Prepared (s : Signed) : Type 0 where
  pub laying : Laying s
  pub signs : HasSigns s
  pub lawful : (input : List ℕ) → AreWords input → Always (items s.program) (first_spot s.program input) (LawfulAt s.program)
  pub never_reports : NeverReports s.program

-- ---- the heads

-- The run with heads is the same observed from outside as the run of items. Each of its states is lawful, and stands at a word of a
-- head or is as one of the run of items, but for the registers of the signatures.
abbrev pub HeadsFollow : Type 0
HeadsFollow = (s : Signed) (input : List ℕ) → Laying s → HasSigns s → Always (items s.program) (first_spot s.program input) (LawfulAt s.program) →
    SameObserved (signed_run s input) (item_run s.program input) × Always (items (headed s)) (first_spot (headed s) input) (Follows s input)

-- And it never reports.
abbrev pub HeadsNeverReport : Type 0
HeadsNeverReport = (s : Signed) → Prepared s → NeverReports (headed s)

-- ---- the words

-- After each number of steps the words stand beside the run with heads.
abbrev pub SignedInStep : Type 0
SignedInStep = (s : Signed) (input : List ℕ) → Prepared s → AreWords input → (n : ℕ) → InStep (headed s) input n

-- The words are the same observed from outside as the items.
abbrev pub SignedWordsSame : Type 0
SignedWordsSame = (s : Signed) (input : List ℕ) → Prepared s → AreWords input →
    SameObserved (observed (boot_state (image (headed s)) input) None) (item_run s.program input)

-- One word for each item, and seven for each head.
abbrev pub TextLength : Type 0
TextLength = (s : Signed) → MarksFit s → length (text (headed s)) ≡ words s.program.blocks + 7 * length s.marks

-- The starts of the words are the addresses of the blocks.
abbrev pub StartsAreBlocks : Type 0
StartsAreBlocks = (s : Signed) → Laying s → (w : ℕ) → IsStart (text (headed s)) 0x00400000 w ↔ ((b : ℕ) × (b < length s.program.blocks) × (w ≡ address (headed s) b))

-- ---- the lint

-- Each word that comes next loads and stores at addresses of its stream, returns to starts, and makes no exception.
abbrev pub WordsArePlaced : Type 0
WordsArePlaced = (s : Signed) (input : List ℕ) → Prepared s → AreWords input → Placed (image (headed s)) input

-- No word reports.
abbrev pub WordsNeverReport : Type 0
WordsNeverReport = (s : Signed) (input : List ℕ) → Prepared s → AreWords input → Unreported (image (headed s)) input
