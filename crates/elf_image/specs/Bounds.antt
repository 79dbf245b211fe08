-- Which fields an image may have.
use Rattle.std.specs.Prelude.{ℕ, ◌+◌, ◌*◌, ◌%◌, ◌≤◌, ◌==◌, ◌&&◌, ◌||◌, nat_lt, nat_le, Bool, true, IsTrue, List, [], ◌∷◌, Option, Some, None, length}
use Rattle.mips_isa.specs.Image.{ImageFields}
use Rattle.elf_image.specs.declared.layout.Sizes.{Sizes}
use Rattle.elf_image.specs.Layout.{sizes_of, sections_at}

-- the address of a word of a text of so many words, which begins at 0x00400000
abbrev pub is_in_text : ℕ → ℕ → Bool
is_in_text words address = (address % 4 == 0) && (nat_le 0x00400000 address && nat_lt address (0x00400000 + 4 * words))

-- a window: an address of the text, and a register other than register 0
abbrev pub is_window : ℕ → ℕ × ℕ → Bool
is_window words p = is_in_text words p.0 && (nat_le 1 p.1 && nat_le p.1 31)

-- an alias: two addresses of the text
abbrev pub is_alias : ℕ → ℕ × ℕ → Bool
is_alias words p = is_in_text words p.0 && is_in_text words p.1

-- strictly after the last pair, if there is one, by the first number and then by the second
abbrev pub is_after : Option (ℕ × ℕ) → ℕ × ℕ → Bool
is_after None p = true
is_after (Some last) p = nat_lt last.0 p.0 || ((last.0 == p.0) && nat_lt last.1 p.1)

-- pairs that all pass a test and ascend strictly, from after the last one on
abbrev pub all_ascending : (ℕ × ℕ → Bool) → Option (ℕ × ℕ) → List (ℕ × ℕ) → Bool
all_ascending test last [] = true
all_ascending test last (p ∷ ps) = (is_after last p && test p) && all_ascending test (Some p) ps

-- the bounds of the numbers of words
pub record SizesFit (s : Sizes) : Type 0 where
  pub some_text : 1 ≤ s.text
  pub text : s.text ≤ 66060288
  pub some_memory : 1 ≤ s.memory_words
  pub memory : s.memory_words ≤ 4194304
  pub initial : s.initial ≤ s.memory_words

-- the bounds of an image: its sizes, an entry in the text, windows and aliases of the text that ascend strictly
pub record Bounds (i : ImageFields) : Type 0 where
  pub sizes : SizesFit (sizes_of i)
  pub entry : IsTrue (is_in_text (length i.text) i.entry)
  pub windows : IsTrue (all_ascending (is_window (length i.text)) None i.windows)
  pub aliases : IsTrue (all_ascending (is_alias (length i.text)) None i.aliases)

-- what a file can hold: fields in their bounds, in at most 3,221,225,472 bytes
pub record Fits (i : ImageFields) : Type 0 where
  pub bounds : Bounds i
  pub whole : sections_at (sizes_of i) + 240 ≤ 3221225472

-- a register's number
abbrev pub has_register : ℕ × ℕ → Bool
has_register p = nat_le p.1 31
