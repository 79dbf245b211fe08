use Rattle.std.proofs.Common.{arith}
use Rattle.elf_image.proofs.Written.{are_words}
use Rattle.harden.proofs.blocks_image.see_words.Goals as goal

pub returns : goal.returns
returns c = are_words c.args.words.now (λ i. omega (arith, c.type_inv.words i))
