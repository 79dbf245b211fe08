use Rattle.std.proofs.Common.{◌≢◌, subst, All, arith}
use Rattle.std.proofs.lemmas.List.{take_all}
use Rattle.std.proofs.lemmas.List.Elements.{All-more}
use Rattle.std.proofs.lemmas.Bool.{false≢true}
use Rattle.c_lexer.specs.Spelling.{sign_spelling}
use Rattle.c_lexer.specs.declared.token.Punct.TheVariants as signs
use Rattle.c_lexer.proofs.spelling.punct_among.Goals as goal

pub loop-sign-preserved : goal.loop-sign-preserved
loop-sign-preserved c = All-more (λ k. c.args.text.now ≢ sign_spelling k) c.args.signs.now c.loop-sign.sign-index signs.Plus (omega arith) c.loop-sign.invariant (λ e. false≢true (c.if-spells_punct.ensures.1 e))

pub returns : goal.returns
returns c = subst (All (λ k. c.args.text.now ≢ sign_spelling k)) (take_all c.loop-sign.sign-index c.args.signs.now (omega arith)) c.loop-sign.invariant
