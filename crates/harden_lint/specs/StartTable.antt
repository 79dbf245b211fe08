-- The table of the starts of a text. This file serves private contracts alone; Blocks.antt has the definition of a start.
use Rattle.std.specs.Prelude.{◌≡◌, ◌≤◌, ◌<◌, ℕ, ◌+◌, ◌*◌, nat_lt, Bool, true, false, if◌then◌else◌, Option, Some, None, List, length, get_or, slice_set, ◌⊎◌}
use Rattle.mips_isa.specs.Machine.{text_place}
use Rattle.mips_text.specs.Text.{InText}
use Rattle.lint_words.specs.Words.{made, in_words}

-- A table of some addresses: a bit for each word of the text, and the lowest of them outside the text.
pub record Table (text : List ℕ) (S : ℕ → Type 0) (bits : List Bool) (outside : Option ℕ) : Type 0 where
  pub len : length bits ≡ length text
  pub sound : (k : ℕ) → k < length text → get_or bits k false ≡ true → S (0x00400000 + 4 * k)
  pub complete : (w : ℕ) → S w → InText text w → get_or bits (text_place w) false ≡ true
  pub none : outside ≡ None → (w : ℕ) → S w → InText text w
  pub some : (w : ℕ) → outside ≡ Some w → S w × (InText text w → ⊥)
  pub lowest : (w v : ℕ) → outside ≡ Some w → S v → (InText text v → ⊥) → w ≤ v

-- The word at a makes w a start.
abbrev pub Made : List ℕ → (a w : ℕ) → Type 0
Made text a w = ((made text a).0 ≡ Some w) ⊎ ((made text a).1 ≡ Some w)

-- The entry, and the starts that the first k words make.
abbrev pub Below : List ℕ → (entry k w : ℕ) → Type 0
Below text entry k w = (w ≡ entry) ⊎ ((j : ℕ) × ((j < k) × Made text (0x00400000 + 4 * j) w))

-- A start marked in a table of the words, or kept as the lowest one outside the text.
abbrev pub marked : List Bool → ℕ → List Bool
marked bits w = if in_words (length bits) w then slice_set bits (text_place w) true else bits

abbrev pub lower : Option ℕ → ℕ → Option ℕ
lower None w = Some w
lower (Some v) w = if nat_lt w v then Some w else Some v

abbrev pub left_out : ℕ → Option ℕ → ℕ → Option ℕ
left_out n out w = if in_words n w then out else lower out w

abbrev pub marked_if : List Bool → Option ℕ → List Bool
marked_if bits None = bits
marked_if bits (Some w) = marked bits w

abbrev pub left_if : ℕ → Option ℕ → Option ℕ → Option ℕ
left_if n out None = out
left_if n out (Some w) = left_out n out w
