-- For private contracts alone: what was read of the files of a run of a source.
use Rattle.std.specs.Prelude.{ℕ, List}
use Rattle.check_rules.specs.Limits.{Resolved}
use Rattle.compile_rules.specs.Compiled.{IsCheckedSource}
use Rattle.tool_outcomes.specs.Files.{Held, Holds, IsInput}

-- The checked program is that of the source under one name, and the numbers are those under another.
abbrev pub IsReady : Held → (source input : List ℕ) → Resolved → List ℕ → Type 0
IsReady held source input c numbers = Holds held source (λ bytes. IsCheckedSource bytes c) × Holds held input (λ text. IsInput text numbers)
