-- Which refusal the fault of a stage becomes.
use Rattle.c_lexer.specs.declared.error.LexError.{LexError}
use Rattle.c_lexer.specs.declared.error.LexError.TheVariants as lexer
use Rattle.c_parser.specs.declared.program.ParseError.{ParseError}
use Rattle.c_parser.specs.declared.program.ParseError.TheVariants as parser
use Rattle.check_rules.specs.declared.error.CheckError.{CheckError}
use Rattle.check_rules.specs.declared.error.CheckError.TheVariants as checker
use Rattle.compile_rules.specs.declared.refusal.Refusal.{Refusal}
use Rattle.compile_rules.specs.declared.refusal.Refusal.TheVariants.{TooLong, Lex, Parse, Check, OutOfMemory}

abbrev pub lexer_refusal : LexError → Refusal
lexer_refusal lexer.OutOfMemory = OutOfMemory
lexer_refusal e = Lex e

abbrev pub parser_refusal : ParseError → Refusal
parser_refusal parser.OutOfMemory = OutOfMemory
parser_refusal e = Parse e

abbrev pub checker_refusal : CheckError → Refusal
checker_refusal checker.OutOfMemory = OutOfMemory
checker_refusal e = Check e
