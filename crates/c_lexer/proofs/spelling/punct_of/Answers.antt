use Rattle.std.proofs.Common.{◌≡◌, ◌≢◌, All, Option, Some, None, MatchOption, sym, ap, ◌∙◌, ℕ, List}
use Rattle.c_lexer.specs.Spelling.{sign_spelling}
use Rattle.c_lexer.specs.declared.token.Punct.{Punct}
use Rattle.c_lexer.specs.declared.spelling.TheConstants.{PUNCTS}
use Rattle.c_lexer.proofs.Tables.{sign_stands}
use Rattle.c_lexer.proofs.spelling.punct_of.Goals as goal

of_each : (text : List ℕ) (r : Option Punct) → MatchOption r (All (λ k. text ≢ sign_spelling k) PUNCTS) (λ k. text ≡ sign_spelling k) → MatchOption r ((k : Punct) → text ≢ sign_spelling k) (λ k. text ≡ sign_spelling k)
of_each text (Some k) h = h
of_each text None h = λ k e. let s = sign_stands k in h s.place k s.within (e ∙ ap sign_spelling (sym s.is))

pub returns : goal.returns
returns c = of_each c.args.text.now c.punct_among.result c.punct_among.ensures
