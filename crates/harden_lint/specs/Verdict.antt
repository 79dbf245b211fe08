-- What the lint may find: of each text there are typing rows, or a lowest address at which a rule is broken, and never both.
use Rattle.std.specs.Prelude.{ℕ, List, ◌⊎◌}
use Rattle.mips_text.specs.Text.{IsText}
use Rattle.harden_lint.specs.declared.TypingRow.{TypingRow}
use Rattle.harden_lint.specs.Rows.{Typed}
use Rattle.harden_lint.specs.Rules.{BadAt}

-- The text is well typed, by some rows.
abbrev pub IsTyped : List ℕ → (entry : ℕ) → Type 0
IsTyped text entry = (rows : List TypingRow) × Typed text entry rows

-- There is a lowest address at which a rule is broken.
abbrev pub IsBad : List ℕ → (entry : ℕ) → Type 0
IsBad text entry = (address : ℕ) × ((rule : ℕ) × BadAt text entry address rule)

-- Each text is the one or the other.
pub record TypedOrBad : Type 0 where
  pub one : (text : List ℕ) (entry : ℕ) → IsText text → IsTyped text entry ⊎ IsBad text entry
  pub never_both : (text : List ℕ) (entry : ℕ) → IsTyped text entry → IsBad text entry → ⊥
