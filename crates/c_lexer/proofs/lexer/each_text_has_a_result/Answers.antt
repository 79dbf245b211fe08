use Rattle.c_lexer.proofs.Total.{some_result}
use Rattle.c_lexer.proofs.lexer.each_text_has_a_result.Goals as goal

pub returns : goal.returns
returns c = some_result
