use Rattle.elf_image.proofs.Fields.{one_image}
use Rattle.elf_image.proofs.laws.one_image.Goals as goal

pub returns : goal.returns
returns c = λ bytes i j h k. one_image bytes i j h k
