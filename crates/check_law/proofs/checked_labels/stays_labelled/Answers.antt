use Rattle.check_law.proofs.Items.{labels_stay}
use Rattle.check_law.proofs.checked_labels.stays_labelled.Goals as goal

pub returns : goal.returns
returns c = labels_stay
