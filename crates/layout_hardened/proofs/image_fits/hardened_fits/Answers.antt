use Rattle.layout_hardened.proofs.Fitting.{hardened_fits as law}
use Rattle.layout_hardened.proofs.image_fits.hardened_fits.Goals as goal

pub returns : goal.returns
returns c image n place h s small = law c.encodes_decoded.ensures image n place h s small
