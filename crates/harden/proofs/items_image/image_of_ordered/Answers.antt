use Rattle.elf_image.specs.Layout.{fields_of}
use Rattle.harden.specs.HardenChainSteps.{IsImageOfSigned, IsImageOfOrdered}
use Rattle.harden.proofs.Results.{for_ok}
use Rattle.harden.proofs.Images as by
use Rattle.harden.proofs.items_image.image_of_ordered.Goals as goal

pub returns : goal.returns
returns c = for_ok c.image_of.result (λ image. IsImageOfSigned c.in_ok-signed.signed (fields_of image)) (λ image. IsImageOfOrdered c.args.program (fields_of image)) c.image_of.ensures
    (λ image m. by.image_of_ordered c.args.program c.in_ok-signed.signed (fields_of image) c.in_ok-signed.ensures m)
