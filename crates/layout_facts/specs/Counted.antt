-- What is counted of the words of a signed program: its windows, and its loads through the stack pointers.
use Rattle.std.specs.Prelude.{◌≡◌, ◌≢◌, ◌≤◌, ◌<◌, ℕ, Bool, false, Option, Some, None, List, length, get_or, count_by}
use Rattle.mips_isa.specs.declared.instr.Instr.{Instr}
use Rattle.mips_isa.specs.Table.{decoded}
use Rattle.mips_text.specs.Text.{Near}
use Rattle.hard_items.specs.declared.code.Signed.{Signed}
use Rattle.hard_items.specs.Heads.{headed}
use Rattle.hard_items.specs.Rules.{Guarded}
use Rattle.mips_text.specs.Loads.{is_reload}
use Rattle.hard_items.specs.Counts.{reloads}
use Rattle.layout_law.specs.Layout.{text}
use Rattle.layout_law.specs.Level.{Laying}
use Rattle.mips_text.specs.Loads.{is_load}

abbrev pub pair_at : List (ℕ × ℕ) → ℕ → ℕ × ℕ
pair_at ws k = get_or ws k (0, 0)

-- Windows of a text, each once.
pub record WindowsOnce (text : List ℕ) (ws : List (ℕ × ℕ)) : Type 0 where
  pub near : (k : ℕ) → k < length ws → Near text (pair_at ws k).0 (pair_at ws k).1
  pub once : (j k : ℕ) → j < k → k < length ws → pair_at ws j ≢ pair_at ws k

-- The words of a guarded program, with heads or without, have at most as many windows as there are words.
abbrev pub WindowsAreFew : Type 0
WindowsAreFew = (s : Signed) (ws : List (ℕ × ℕ)) → Laying s → Guarded s.program → WindowsOnce (text (headed s)) ws → length ws ≤ length (text (headed s))

-- The words have as many loads through the stack pointers as the items.
abbrev pub ReloadsAreLoads : Type 0
ReloadsAreLoads = (s : Signed) → Laying s → count_by is_load (text (headed s)) ≡ reloads s.program
