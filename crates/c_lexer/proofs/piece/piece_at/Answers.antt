use Rattle.std.proofs.Common.{sym}
use Rattle.c_lexer.proofs.Longest.{longest_blank, longest_word, longest_digits}
use Rattle.c_lexer.proofs.piece.piece_at.Goals as goal

pub returns-in-Blank-clause-found : goal.returns-in-Blank-clause-found
returns-in-Blank-clause-found c = longest_blank c.args.starts_line c.args.text.now c.requires (sym c.in-Blank.ensures)

pub returns-in-Letter-clause-found : goal.returns-in-Letter-clause-found
returns-in-Letter-clause-found c = longest_word c.args.starts_line c.args.text.now _ c.requires (sym c.in-Letter.ensures) c.word_size.ensures

pub returns-in-Digit-clause-found : goal.returns-in-Digit-clause-found
returns-in-Digit-clause-found c = longest_digits c.args.starts_line c.args.text.now _ c.requires (sym c.in-Digit.ensures) c.word_size-in-Digit.ensures
