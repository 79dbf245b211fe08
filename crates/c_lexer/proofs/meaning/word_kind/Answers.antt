use Rattle.std.proofs.Common.{sym, subst}
use Rattle.c_lexer.specs.declared.meaning.Meaning.TheVariants.{Is}
use Rattle.c_lexer.specs.declared.piece.Kind.TheVariants.{Word}
use Rattle.c_lexer.specs.declared.token.TokenKind.TheVariants.{Name}
use Rattle.c_lexer.specs.Names.{spellings}
use Rattle.c_lexer.specs.Tokens.{Means, reserved, name}
use Rattle.c_lexer.proofs.meaning.word_kind.Goals as goal

pub returns-in-Some-clause-means : goal.returns-in-Some-clause-means
returns-in-Some-clause-means c = λ s at. reserved c.in-Some.word c.in-Some.ensures

pub returns-in_ok-number_of-in-None-clause-means : goal.returns-in_ok-number_of-in-None-clause-means
returns-in_ok-number_of-in-None-clause-means c = λ s at. subst (λ n. Means s (spellings c.args.names.now) at c.args.bytes.now Word (Is (Name n))) (sym c.in_ok-number_of-in-None.ensures.number) (name c.in-None.ensures)
