use Rattle.elf_image.proofs.Written.{image_written}
use Rattle.elf_image.proofs.laws.written_is_image.Goals as goal

pub returns : goal.returns
returns c = λ i f t n. image_written i f t n
