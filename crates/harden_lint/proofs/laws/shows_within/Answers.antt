use Rattle.harden_lint.proofs.Whole.{shows_within}
use Rattle.harden_lint.proofs.laws.shows_within.Goals as goal

pub returns : goal.returns
returns c = shows_within
