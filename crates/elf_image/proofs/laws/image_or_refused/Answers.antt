use Rattle.std.proofs.Common.{◌≡◌, ◌⊎◌, inl, inr, ℕ, List, refl, sym}
use Rattle.std.specs.Prelude.{Option, None, Some}
use Rattle.mips_isa.specs.Image.{ImageFields}
use Rattle.elf_image.specs.declared.read.ImageError.{ImageError}
use Rattle.elf_image.specs.Held.{IsImage}
use Rattle.elf_image.specs.Refusal.{fields_told, refusal}
use Rattle.elf_image.proofs.Fields.{image_told, no_image}
use Rattle.elf_image.proofs.laws.image_or_refused.Goals as goal

-- by what the checks answer
by_answer : (bytes : List ℕ) (answer : Option ImageError) → refusal bytes ≡ answer →
    ((i : ImageFields) × IsImage bytes i) ⊎ ((e : ImageError) × (refusal bytes ≡ Some e))
by_answer bytes None h = inl (fields_told bytes, image_told bytes h)
by_answer bytes (Some e) h = inr (e, h)

pub returns : goal.returns
returns c = record {
  one = λ bytes. by_answer bytes (refusal bytes) refl;
  never_both = λ bytes i e held refused. no_image bytes e (sym refused) i held;
}
