use Rattle.std.proofs.Common.{◌≢◌, All, take}
use Rattle.c_lexer.specs.Spelling.{sign_spelling}
use Rattle.c_lexer.proofs.spelling.punct_among.Given as goal

abbrev pub invariant-loop-sign : goal.invariant-loop-sign
invariant-loop-sign l = All (λ k. l.text ≢ sign_spelling k) (take l.sign-index l.signs)
