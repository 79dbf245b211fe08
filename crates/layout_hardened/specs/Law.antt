-- When a hardened image fits a file.
use Rattle.std.specs.Prelude.{◌≡◌, ◌≤◌, ◌<◌, ◌*◌, ℕ, List, length}
use Rattle.hard_words.specs.Words.{AreWords}
use Rattle.mips_isa.specs.Image.{ImageFields}
use Rattle.mips_text.specs.Text.{InText}
use Rattle.mips_text.specs.Blocks.{IsStart}
use Rattle.elf_image.specs.Bounds.{Fits}
use Rattle.hard_items.specs.declared.code.Signed.{Signed}
use Rattle.hard_items.specs.Heads.{headed}
use Rattle.layout_law.specs.Layout.{address}
use Rattle.layout_law.specs.Laws.{Prepared}
use Rattle.lint_theorem.specs.Hardened.{IsHardened}
use Rattle.layout_hardened.specs.Laws.{image_with}

-- The blocks of an image begin in its text, at some of n places.
pub record HasStarts (image : ImageFields) (n : ℕ) (place : ℕ → ℕ) : Type 0 where
  pub start : (w : ℕ) → IsStart image.text image.entry w → (b : ℕ) × (b < n) × (w ≡ place b)
  pub in_text : (w : ℕ) → IsStart image.text image.entry w → InText image.text w

-- What a file has room for: at most 66,060,288 words of text, at most as many windows as words, at most 256,000,000 aliases, and at most
-- 65,536 words of memory.
pub record IsSmall (image : ImageFields) : Type 0 where
  pub are_words : AreWords image.text
  pub text : length image.text ≤ 66060288
  pub windows : length image.windows ≤ length image.text
  pub aliases : length image.aliases ≤ 256000000
  pub some_memory : 1 ≤ image.memory_words
  pub memory : image.memory_words ≤ 65536
  pub initial : length image.initial ≤ image.memory_words

-- A hardened image that is small fits a file.
abbrev pub HardenedFits : Type 0
HardenedFits = (image : ImageFields) (n : ℕ) (place : ℕ → ℕ) → IsHardened image → HasStarts image n place → IsSmall image → Fits image

-- And it has at most as many aliases as its blocks make pairs.
abbrev pub AliasesAreFew : Type 0
AliasesAreFew = (image : ImageFields) (n : ℕ) (place : ℕ → ℕ) → IsHardened image → HasStarts image n place → length image.aliases ≤ n * n

-- A prepared program of at most n blocks, laid out, has its starts at the addresses of its blocks.
abbrev pub PreparedHasStarts : Type 0
PreparedHasStarts = (s : Signed) (windows aliases : List (ℕ × ℕ)) (n : ℕ) → Prepared s → length s.program.blocks ≤ n →
    HasStarts (image_with s windows aliases) n (address (headed s))
