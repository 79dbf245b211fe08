use Rattle.layout_hardened.proofs.Starts.{has_starts}
use Rattle.layout_hardened.proofs.image_fits.prepared_has_starts.Goals as goal

pub returns : goal.returns
returns c s windows aliases n g few = has_starts c.starts_are_blocks.ensures s windows aliases n g few
