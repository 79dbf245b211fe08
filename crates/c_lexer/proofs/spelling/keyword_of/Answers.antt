use Rattle.std.proofs.Common.{◌≡◌, ◌≢◌, All, Option, Some, None, MatchOption, sym, ap, ◌∙◌, ℕ, List}
use Rattle.c_lexer.specs.Spelling.{word_spelling}
use Rattle.c_lexer.specs.declared.token.Keyword.{Keyword}
use Rattle.c_lexer.specs.declared.spelling.TheConstants.{KEYWORDS}
use Rattle.c_lexer.proofs.Tables.{word_stands}
use Rattle.c_lexer.proofs.spelling.keyword_of.Goals as goal

of_each : (text : List ℕ) (r : Option Keyword) → MatchOption r (All (λ k. text ≢ word_spelling k) KEYWORDS) (λ k. text ≡ word_spelling k) → MatchOption r ((k : Keyword) → text ≢ word_spelling k) (λ k. text ≡ word_spelling k)
of_each text (Some k) h = h
of_each text None h = λ k e. let s = word_stands k in h s.place k s.within (e ∙ ap word_spelling (sym s.is))

pub returns : goal.returns
returns c = of_each c.args.text.now c.keyword_among.result c.keyword_among.ensures
