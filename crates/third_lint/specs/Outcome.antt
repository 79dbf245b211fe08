-- What the pass over the words finds, and what the lint answers. This file serves private contracts alone.
use Rattle.std.specs.Prelude.{◌≤◌, ◌<◌, ℕ, Option, Some, None, List, length}
use Rattle.mips_isa.specs.Machine.{text_place}
use Rattle.mips_text.specs.Text.{InText}
use Rattle.third_lint.specs.Rules.{Obeys, WellTyped, Breaks, BadAt}

-- The words below a place obey the rules.
abbrev pub CleanTo : List ℕ → (entry k : ℕ) → Type 0
CleanTo text entry k = (b : ℕ) → InText text b → text_place b < k → Obeys text entry b

-- A word is the first of the text that breaks a rule, and the rule is the lowest that it breaks.
pub record IsFirst (text : List ℕ) (entry a r : ℕ) : Type 0 where
  pub in_text : InText text a
  pub clean : CleanTo text entry (text_place a)
  pub broken : Breaks text entry a r
  pub least : (s : ℕ) → Breaks text entry a s → r ≤ s

-- What the pass over the words finds.
abbrev pub Scanned : List ℕ → (entry : ℕ) → Option (ℕ × ℕ) → Type 0
Scanned text entry None = CleanTo text entry (length text)
Scanned text entry (Some p) = IsFirst text entry p.0 p.1

-- What the lint answers.
abbrev pub Decided : List ℕ → (entry : ℕ) → Option (ℕ × ℕ) → Type 0
Decided text entry None = WellTyped text entry
Decided text entry (Some p) = BadAt text entry p.0 p.1
