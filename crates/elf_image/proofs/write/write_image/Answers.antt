use Rattle.std.proofs.Common.{◌≡◌, ◌++◌, ◌∙◌, ap, sym, subst, List, ℕ}
use Rattle.mips_isa.specs.Image.{ImageFields}
use Rattle.elf_image.specs.Held.{IsImage}
use Rattle.hard_words.specs.Words.{AreWords}
use Rattle.elf_image.specs.Layout.{fields_of, front, back, image_bytes}
use Rattle.elf_image.proofs.Written.{image_written}
use Rattle.elf_image.proofs.write.write_image.Goals as goal

pub returns-clause-held : goal.returns-clause-held
returns-clause-held c =
    let f : ImageFields = fields_of c.args.image.now in
    let e : c.put_back.new.out.items ≡ image_bytes f =
    c.in_ok-put_back.ensures ∙ ap (λ (l : List ℕ). l ++ back f) (c.in_ok-put_front.ensures ∙ ap (λ (l : List ℕ). l ++ front f) c.new-out.ensures.items) in
    let text : AreWords f.text = subst (λ (l : List ℕ). AreWords l) c.as_slice.ensures c.see_words.ensures in
    let initial : AreWords f.initial = subst (λ (l : List ℕ). AreWords l) c.as_slice-2.ensures c.see_words-2.ensures in
    subst (λ (l : List ℕ). IsImage l f) (sym e) (image_written f c.requires text initial)
