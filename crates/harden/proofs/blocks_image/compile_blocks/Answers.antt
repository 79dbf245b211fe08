use Rattle.std.proofs.Common.{subst, List, ℕ}
use Rattle.elf_image.specs.Layout.{fields_of}
use Rattle.hard_words.specs.Words.{AreWords}
use Rattle.harden.proofs.Composed as by
use Rattle.harden.proofs.blocks_image.compile_blocks.Goals as goal

pub harden-requires-clause-few : goal.harden-requires-clause-few
harden-requires-clause-few c = by.few_enough c.args.mid.now c.in_ok-doubled.doubled c.requires c.in_ok-doubled.ensures.counts

pub harden-requires-clause-room : goal.harden-requires-clause-room
harden-requires-clause-room c = by.room_enough c.args.mid.now c.in_ok-doubled.doubled c.requires c.in_ok-doubled.ensures.counts

pub returns : goal.returns
returns c =
    let words : AreWords (fields_of c.in_ok-image.image).text = subst (λ (l : List ℕ). AreWords l) c.as_slice.ensures c.see_words.ensures in
    by.image_of_blocks c.args.mid.now c.in_ok-doubled.doubled (fields_of c.in_ok-image.image) c.requires c.in_ok-doubled.ensures words c.in_ok-image.ensures c.hardened_fits.ensures c.aliases_are_few.ensures
