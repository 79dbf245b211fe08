-- Which token each mark is.
use Rattle.std.specs.Prelude.{Bool}
use Rattle.c_lexer.specs.declared.token.TokenKind.{TokenKind}
use Rattle.c_grammar.specs.declared.marks.Mark.{Mark}
use Rattle.c_grammar.specs.declared.marks.Mark.TheVariants as marks
use Rattle.c_grammar.specs.ReadExpressions.{is_close_paren, is_close_bracket, is_colon}
use Rattle.c_grammar.specs.ReadStatements.{is_open_paren, is_semicolon, is_close_brace, is_opening_brace, is_while}

abbrev pub is_mark : Mark → TokenKind → Bool
is_mark marks.CloseParen = is_close_paren
is_mark marks.CloseBracket = is_close_bracket
is_mark marks.Colon = is_colon
is_mark marks.OpenParen = is_open_paren
is_mark marks.Semicolon = is_semicolon
is_mark marks.OpenBrace = is_opening_brace
is_mark marks.CloseBrace = is_close_brace
is_mark marks.While = is_while
