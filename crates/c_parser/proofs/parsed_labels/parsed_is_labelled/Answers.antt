use Rattle.c_parser.proofs.LabelledItems.{labelled}
use Rattle.c_parser.proofs.parsed_labels.parsed_is_labelled.Goals as goal

pub returns : goal.returns
returns c = labelled
