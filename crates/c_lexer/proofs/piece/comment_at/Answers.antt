use Rattle.c_lexer.proofs.Longest.{longest_block, longest_open}
use Rattle.c_lexer.proofs.piece.comment_at.Goals as goal

pub returns-in-Some : goal.returns-in-Some
returns-in-Some c = λ s. longest_block s c.args.text.now c.in-Some.at (record { two = c.requires.two; first = c.requires.first; second = c.requires.second }) c.in-Some.ensures

pub returns-in-None : goal.returns-in-None
returns-in-None c = λ s. longest_open s c.args.text.now (record { two = c.requires.two; first = c.requires.first; second = c.requires.second }) c.in-None.ensures
