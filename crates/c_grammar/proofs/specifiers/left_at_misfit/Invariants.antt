use Rattle.std.proofs.Common.{length}
use Rattle.c_grammar.proofs.specifiers.left_at_misfit.Given as goal

abbrev pub decreases-loop-t : goal.decreases-loop-t
decreases-loop-t l = length l.rest
