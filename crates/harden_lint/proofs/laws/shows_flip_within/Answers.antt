use Rattle.harden_lint.proofs.Whole.{shows_flip_within}
use Rattle.harden_lint.proofs.laws.shows_flip_within.Goals as goal

pub returns : goal.returns
returns c = shows_flip_within
