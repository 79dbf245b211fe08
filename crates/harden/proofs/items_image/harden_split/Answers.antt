use Rattle.elf_image.specs.Layout.{fields_of}
use Rattle.harden.specs.Image.{IsSplitImageOf}
use Rattle.harden.specs.HardenChainSteps.{IsImageOfOrdered}
use Rattle.harden.proofs.Results.{for_ok}
use Rattle.harden.proofs.Images.{few_enough, room_enough, split_image}
use Rattle.harden.proofs.items_image.harden_split.Goals as goal

pub image_of_ordered-requires-clause-few : goal.image_of_ordered-requires-clause-few
image_of_ordered-requires-clause-few c = few_enough c.args.program c.in_ok-ordered.ordered _ _ c.in_ok-ordered.ensures.comes c.requires.few

pub image_of_ordered-requires-clause-room : goal.image_of_ordered-requires-clause-room
image_of_ordered-requires-clause-room c = room_enough c.args.program c.in_ok-ordered.ordered _ _ c.in_ok-ordered.ensures.comes c.requires.room

pub returns : goal.returns
returns c = for_ok c.image_of_ordered.result (λ image. IsImageOfOrdered c.in_ok-ordered.ordered (fields_of image)) (λ image. IsSplitImageOf c.args.program (fields_of image)) c.image_of_ordered.ensures
    (λ image m. split_image c.args.program c.in_ok-ordered.ordered (fields_of image) c.in_ok-ordered.ensures m)
