-- What the pass over the words finds, and what the lint answers. This file serves private contracts alone.
use Rattle.std.specs.Prelude.{◌≤◌, ◌<◌, ℕ, ◌+◌, ◌*◌, ◌&&◌, nat_lt, Bool, if◌then◌else◌, Option, Some, None, List, length}
use Rattle.mips_isa.specs.Machine.{text_place}
use Rattle.mips_text.specs.Text.{InText}
use Rattle.harden_lint.specs.Rules.{Obeys, WellTyped, Breaks, BadAt}

-- The words below a place obey the rules.
abbrev pub CleanTo : List ℕ → (entry k : ℕ) → Type 0
CleanTo text entry k = (b : ℕ) → InText text b → text_place b < k → Obeys text entry b

-- A word is the first of the text that breaks a rule, and the rule is the lowest that it breaks.
pub record IsFirst (text : List ℕ) (entry a r : ℕ) : Type 0 where
  pub in_text : InText text a
  pub clean : CleanTo text entry (text_place a)
  pub broken : Breaks text entry a r
  pub least : (s : ℕ) → Breaks text entry a s → r ≤ s

-- What the pass over the words finds.
abbrev pub Scanned : List ℕ → (entry : ℕ) → Option (ℕ × ℕ) → Type 0
Scanned text entry None = CleanTo text entry (length text)
Scanned text entry (Some p) = IsFirst text entry p.0 p.1

-- What the lint answers.
abbrev pub Decided : List ℕ → (entry : ℕ) → Option (ℕ × ℕ) → Type 0
Decided text entry None = WellTyped text entry
Decided text entry (Some p) = BadAt text entry p.0 p.1

-- The address behind the text.
abbrev pub end_of : List ℕ → ℕ
end_of text = 0x00400000 + 4 * length text

-- The lower of what is found in the text and what is outside: a start, which breaks the second rule, and a delay slot, which
-- breaks the tenth.
abbrev pub with_slot : Bool → ℕ → Option (ℕ × ℕ)
with_slot slot end = if slot then Some (end, 10) else None

abbrev pub with_start : Bool → (end w : ℕ) → Option (ℕ × ℕ)
with_start slot end w = if slot && nat_lt end w then Some (end, 10) else Some (w, 2)

abbrev pub outside_of : Option ℕ → Bool → ℕ → Option (ℕ × ℕ)
outside_of None slot end = with_slot slot end
outside_of (Some w) slot end = with_start slot end w

abbrev pub before_of : Option ℕ → ℕ × ℕ → Option (ℕ × ℕ)
before_of None p = Some p
before_of (Some w) p = if nat_lt w p.0 then Some (w, 2) else Some p

abbrev pub outcome : Option (ℕ × ℕ) → Option ℕ → Bool → ℕ → Option (ℕ × ℕ)
outcome None outside slot end = outside_of outside slot end
outcome (Some p) outside slot end = before_of outside p
