use Rattle.lower_size_law.proofs.Programs.{words_stay}
use Rattle.lower_size_law.proofs.lowering_words.stays_words.Goals as goal

pub returns : goal.returns
returns c = words_stay
