-- The words of a guarded program whose items are lawful and never report are a hardened image.
use Rattle.std.specs.Prelude.{◌≡◌, ◌≤◌, ◌<◌, ◌↔◌, ℕ, None, List, length, map}
use Rattle.hard_runs.specs.Observed.{SameObserved}
use Rattle.hard_words.specs.Words.{AreWords}
use Rattle.mips_isa.specs.Runs.{observed}
use Rattle.mips_isa.specs.Image.{ImageFields, boot_state}
use Rattle.mips_text.specs.Blocks.{IsStart, IsAlias, Succ}
use Rattle.mips_faults.specs.Faults.{Placed, Unreported}
use Rattle.harden_lint.specs.declared.TypingRow.{TypingRow}
use Rattle.harden_lint.specs.Rows.{AreRows}
use Rattle.hard_items.specs.declared.code.Signed.{Signed}
use Rattle.hard_items.specs.Heads.{headed}
use Rattle.hard_items.specs.Run.{items_of, item_run}
use Rattle.hard_items.specs.Counts.{Calm}
use Rattle.hard_items.specs.Ways.{MayFollow}
use Rattle.hard_items.specs.Rules.{Apart, Guarded, NeverReports}
use Rattle.sign_law.specs.Marks.{HasSigns, successors_of, head_of}
use Rattle.sign_law.specs.Graph.{IsSucc}
use Rattle.sign_law.specs.Signs.{head_at}
use Rattle.mips_text.specs.Blocks.{carried}
use Rattle.layout_law.specs.Layout.{words, address, text, image}
use Rattle.layout_law.specs.Level.{AllReach, Laying}
use Rattle.layout_law.specs.Laws.{Prepared}
use Rattle.lint_words.specs.WindowList.{AreWindows}
use Rattle.lint_theorem.specs.Hardened.{AreAliases, IsHardened}

-- The image of the words of a signed program, with lists.
abbrev pub image_with : Signed → (windows aliases : List (ℕ × ℕ)) → ImageFields
image_with s windows aliases = record (image (headed s)) { windows = windows; aliases = aliases }

-- A program in two streams that are apart, that waits where the machine wants it to and never reports, with the marks of its graph, is
-- prepared where its branches reach and its words fit.
abbrev pub CanBePrepared : Type 0
CanBePrepared = (s : Signed) → Apart s.program → Calm s.program → NeverReports s.program → HasSigns s → length s.program.blocks ≤ 65535 →
    ((b : ℕ) → AllReach (headed s) (address (headed s) b) (items_of (headed s) b)) → words (headed s).blocks ≤ 66060288 → Prepared s

-- With the lists of its text it is hardened.
abbrev pub WordsAreHardened : Type 0
WordsAreHardened = (s : Signed) (rows : List TypingRow) (windows aliases : List (ℕ × ℕ)) → Prepared s → Guarded s.program → AreRows (text (headed s)) 0x00400000 rows →
    AreWindows (text (headed s)) windows → AreAliases (text (headed s)) 0x00400000 aliases → IsHardened (image_with s windows aliases)

-- And it runs as the program of items, observed from outside, on every input; it is placed and never reports.
pub record RunsAs (i : ImageFields) (s : Signed) : Type 0 where
  pub same : (input : List ℕ) → AreWords input → SameObserved (observed (boot_state i input) None) (item_run s.program input)
  pub placed : (input : List ℕ) → AreWords input → Placed i input
  pub unreported : (input : List ℕ) → AreWords input → Unreported i input

abbrev pub WordsRunAs : Type 0
WordsRunAs = (s : Signed) (windows aliases : List (ℕ × ℕ)) → Prepared s → RunsAs (image_with s windows aliases) s

-- The successors of the words are those of the graph of blocks, and the aliases are the pairs of blocks that are no successors and whose
-- heads pass.
abbrev pub WordsHaveWays : Type 0
WordsHaveWays = (s : Signed) → Laying s → HasSigns s → (u w : ℕ) → u < length s.program.blocks → w < length s.program.blocks →
    (Succ (text (headed s)) 0x00400000 (address (headed s) u) (address (headed s) w) ↔ MayFollow s.program u w) ×
    (IsAlias (text (headed s)) 0x00400000 (address (headed s) u) (address (headed s) w) ↔ ((MayFollow s.program u w → ⊥) ×
    (carried (head_at (map head_of s.marks) u) (head_at (map head_of s.marks) w) ≡ (head_at (map head_of s.marks) w).s)))
