-- What holds of all files and images.
use Rattle.std.specs.Prelude.{ℕ, ◌≡◌, ◌⊎◌, List, Some}
use Rattle.mips_isa.specs.Image.{ImageFields}
use Rattle.hard_words.specs.Words.{AreWords}
use Rattle.elf_image.specs.declared.read.ImageError.{ImageError}
use Rattle.elf_image.specs.Layout.{image_bytes}
use Rattle.elf_image.specs.Bounds.{Fits}
use Rattle.elf_image.specs.Held.{IsImage}
use Rattle.elf_image.specs.Refusal.{refusal}

-- no bytes are an image of two fields
abbrev pub OneImage : Type 0
OneImage = (bytes : List ℕ) (i j : ImageFields) → IsImage bytes i → IsImage bytes j → i ≡ j

-- what is written of fields that fit, whose words have 32 bits, is an image of these fields
abbrev pub WrittenIsImage : Type 0
WrittenIsImage = (i : ImageFields) → Fits i → AreWords i.text → AreWords i.initial → IsImage (image_bytes i) i

-- each list of bytes is an image or is refused, and none is both
pub record ImageOrRefused : Type 0 where
  pub one : (bytes : List ℕ) → ((i : ImageFields) × IsImage bytes i) ⊎ ((e : ImageError) × (refusal bytes ≡ Some e))
  pub never_both : (bytes : List ℕ) (i : ImageFields) (e : ImageError) → IsImage bytes i → refusal bytes ≡ Some e → ⊥
