use Rattle.c_lexer.proofs.OneResult.{one_result}
use Rattle.c_lexer.proofs.lexer.one_result.Goals as goal

pub returns : goal.returns
returns c = one_result
