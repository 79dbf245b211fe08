-- Tables of the words of a text, and the words that each marks. This file serves private contracts alone.
use Rattle.std.specs.Prelude.{◌≡◌, ◌≢◌, ◌<◌, ℕ, ◌+◌, ◌*◌, Bool, true, false, if◌then◌else◌, Option, Some, None, List, length, get_or, slice_set, ◌⊎◌}
use Rattle.mips_isa.specs.Machine.{text_place}
use Rattle.mips_text.specs.Text.{InText}
use Rattle.mips_text.specs.Blocks.{IsStart}
use Rattle.lint_words.specs.Words.{in_words}
use Rattle.third_lint.specs.Flow.{Next, MovesHalf}
use Rattle.third_lint.specs.Typing.{IsLanding}

-- A table of some addresses: a bit for each word of the text.
pub record Table (text : List ℕ) (S : ℕ → Type 0) (bits : List Bool) : Type 0 where
  pub len : length bits ≡ length text
  pub sound : (k : ℕ) → k < length text → get_or bits k false ≡ true → S (0x00400000 + 4 * k)
  pub complete : (w : ℕ) → S w → InText text w → get_or bits (text_place w) false ≡ true

-- A run may enter a word otherwise than from the word 4 below it.
abbrev pub Entered : List ℕ → (entry w : ℕ) → Type 0
Entered text entry w = IsLanding text entry w ⊎ ((p : ℕ) × (Next text p w × (p + 4 ≢ w)))

-- A word is a next word of a mfhi or mflo, and of such a word.
abbrev pub After : List ℕ → (w : ℕ) → Type 0
After text w = (p : ℕ) × (MovesHalf text p × Next text p w)

abbrev pub Twice : List ℕ → (w : ℕ) → Type 0
Twice text w = (p : ℕ) × (After text p × Next text p w)

-- The four tables of a text.
pub record AreMarks (text : List ℕ) (entry : ℕ) (starts entered after twice : List Bool) : Type 0 where
  pub start_table : Table text (IsStart text entry) starts
  pub entered_table : Table text (Entered text entry) entered
  pub after_table : Table text (After text) after
  pub twice_table : Table text (Twice text) twice

-- One of two addresses that a word makes.
abbrev pub Made : Option ℕ × Option ℕ → (w : ℕ) → Type 0
Made p w = (p.0 ≡ Some w) ⊎ (p.1 ≡ Some w)

-- The addresses that are there at first, and those that the first k words make.
abbrev pub Below : (ℕ → Type 0) → (ℕ → Option ℕ × Option ℕ) → (k w : ℕ) → Type 0
Below E make k w = E w ⊎ ((j : ℕ) × ((j < k) × Made (make (0x00400000 + 4 * j)) w))

-- An address marked in a table of the words.
abbrev pub marked : List Bool → ℕ → List Bool
marked bits w = if in_words (length bits) w then slice_set bits (text_place w) true else bits

abbrev pub marked_if : List Bool → Option ℕ → List Bool
marked_if bits None = bits
marked_if bits (Some w) = marked bits w
