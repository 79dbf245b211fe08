use Rattle.std.proofs.Common.{subst, sym}
use Rattle.mips_isa.specs.Image.{ImageFields}
use Rattle.elf_image.specs.Held.{IsImage}
use Rattle.elf_image.proofs.Fields.{image_told, no_image}
use Rattle.elf_image.proofs.read.read_image.Goals as goal

pub returns-in-Some-clause-refused : goal.returns-in-Some-clause-refused
returns-in-Some-clause-refused c = λ e was not i held. no_image c.args.bytes.now c.in-Some.fault c.in-Some.ensures i held

pub returns-in-Ok-clause-ok : goal.returns-in-Ok-clause-ok
returns-in-Ok-clause-ok c = subst (λ (i : ImageFields). IsImage c.args.bytes.now i) (sym c.in-Ok.ensures) (image_told c.args.bytes.now (sym c.in-None.ensures))
