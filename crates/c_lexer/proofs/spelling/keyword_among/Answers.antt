use Rattle.std.proofs.Common.{◌≢◌, subst, All, arith}
use Rattle.std.proofs.lemmas.List.{take_all}
use Rattle.std.proofs.lemmas.List.Elements.{All-more}
use Rattle.std.proofs.lemmas.Bool.{false≢true}
use Rattle.c_lexer.specs.Spelling.{word_spelling}
use Rattle.c_lexer.specs.declared.token.Keyword.TheVariants as words
use Rattle.c_lexer.proofs.spelling.keyword_among.Goals as goal

pub loop-word-preserved : goal.loop-word-preserved
loop-word-preserved c = All-more (λ k. c.args.text.now ≢ word_spelling k) c.args.words.now c.loop-word.word-index words.Int (omega arith) c.loop-word.invariant (λ e. false≢true (c.if-spells_keyword.ensures.1 e))

pub returns : goal.returns
returns c = subst (All (λ k. c.args.text.now ≢ word_spelling k)) (take_all c.loop-word.word-index c.args.words.now (omega arith)) c.loop-word.invariant
