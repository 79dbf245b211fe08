use Rattle.lower_law.proofs.Final.{few}
use Rattle.lower_law.proofs.laws.few_words.Goals as goal

pub returns : goal.returns
returns c = few
