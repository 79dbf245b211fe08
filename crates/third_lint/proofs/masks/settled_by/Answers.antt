use Rattle.std.proofs.Common.{◌∙◌, sym}
use Rattle.third_lint.specs.Shapes.{vote_at}
use Rattle.third_lint.proofs.MaskBits.{settled_of_vote, settled_of_none}
use Rattle.third_lint.proofs.masks.settled_by.Goals as goal

pub returns-in-None : goal.returns-in-None
returns-in-None c = settled_of_none (vote_at c.args.text.now c.args.v) (sym c.vote_at.ensures ∙ c.in-None.is)

pub returns-in-Some : goal.returns-in-Some
returns-in-Some c = settled_of_vote (vote_at c.args.text.now c.args.v) c.in-Some.x c.bit_if.result (sym c.vote_at.ensures ∙ c.in-Some.is) c.bit_if.ensures
