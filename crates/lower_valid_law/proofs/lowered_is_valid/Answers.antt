use Rattle.lower_valid_law.proofs.Programs.{is_valid}
use Rattle.lower_valid_law.proofs.lowered_is_valid.Goals as goal

pub returns : goal.returns
returns c = is_valid
