use Rattle.std.proofs.Common.{◌≢◌, All, take}
use Rattle.c_lexer.specs.Spelling.{word_spelling}
use Rattle.c_lexer.proofs.spelling.keyword_among.Given as goal

abbrev pub invariant-loop-word : goal.invariant-loop-word
invariant-loop-word l = All (λ k. l.text ≢ word_spelling k) (take l.word-index l.words)
