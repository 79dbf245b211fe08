use Rattle.layout_hardened.proofs.Fitting.{aliases_few}
use Rattle.layout_hardened.proofs.image_fits.aliases_are_few.Goals as goal

pub returns : goal.returns
returns c image n place h s = aliases_few image h n place s
