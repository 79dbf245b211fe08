use Rattle.std.proofs.Common.{length, ◌-◌}
use Rattle.c_lexer.specs.Names.{AreNumbered, spellings}
use Rattle.c_lexer.proofs.Lexed.{IsLexed}
use Rattle.c_lexer.proofs.lexer.tokens.Given as goal

abbrev pub invariant-loop-at : goal.invariant-loop-at
invariant-loop-at l = IsLexed l.bytes l.starts_line (spellings l.names) l.at l.tokens.items × AreNumbered l.names

abbrev pub decreases-loop-at : goal.decreases-loop-at
decreases-loop-at l = length l.bytes - l.at
