use Rattle.harden_lint.proofs.Whole.{shows}
use Rattle.harden_lint.proofs.laws.shows.Goals as goal

pub returns : goal.returns
returns c = shows
