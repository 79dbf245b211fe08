use Rattle.std.proofs.Common.{◌≡◌, length}
use Rattle.c_grammar.specs.Specifiers.{no_words}
use Rattle.c_grammar.specs.ReadStatements.{specifiers}
use Rattle.c_grammar.proofs.specifiers.read_specifiers.Given as goal

abbrev pub invariant-loop-t : goal.invariant-loop-t
invariant-loop-t l = specifiers l.seen l.rest ≡ specifiers no_words l.tokens

abbrev pub decreases-loop-t : goal.decreases-loop-t
decreases-loop-t l = length l.rest
