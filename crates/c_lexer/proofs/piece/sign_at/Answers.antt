use Rattle.c_lexer.proofs.Longest.{longest_of_three, longest_of_two, longest_of_one, no_sign}
use Rattle.c_lexer.proofs.piece.sign_at.Goals as goal

pub returns-in-Some-clause-found : goal.returns-in-Some-clause-found
returns-in-Some-clause-found c = longest_of_three c.args.text.now _ c.in-Some.ensures.found

pub returns-in-Some-sign_of_size-clause-found : goal.returns-in-Some-sign_of_size-clause-found
returns-in-Some-sign_of_size-clause-found c = longest_of_two c.args.text.now _ c.in_default.ensures.none c.in-Some-sign_of_size.ensures.found

pub returns-in-Some-sign_of_size-2-clause-found : goal.returns-in-Some-sign_of_size-2-clause-found
returns-in-Some-sign_of_size-2-clause-found c = longest_of_one c.args.text.now _ c.in_default.ensures.none c.in_default-sign_of_size.ensures.none c.in-Some-sign_of_size-2.ensures.found

pub returns-clause-none : goal.returns-clause-none
returns-clause-none c = no_sign c.args.text.now c.in_default.ensures.none c.in_default-sign_of_size.ensures.none c.in_default-sign_of_size-2.ensures.none
