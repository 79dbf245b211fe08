use Rattle.harden_lint.proofs.Whole.{shows_flip}
use Rattle.harden_lint.proofs.laws.shows_flip.Goals as goal

pub returns : goal.returns
returns c = shows_flip
