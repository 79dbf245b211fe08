use Rattle.lower_checked.proofs.FitPrograms.{checked_can_be_lowered}
use Rattle.lower_checked.proofs.fits.checked_fits.Goals as goal

pub returns : goal.returns
returns c = checked_can_be_lowered
