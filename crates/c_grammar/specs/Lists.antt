-- Lists whose parts are separated by commas.
use Rattle.std.specs.Prelude.{List, [], ◌∷◌, ◌++◌}
use Rattle.c_lexer.specs.declared.token.Token.{Token}
use Rattle.c_lexer.specs.declared.token.Punct.TheVariants as signs
use Rattle.c_grammar.specs.Places.{Place, sign}

-- One or more, separated by commas.
pub data Separated {A : Type 0} (R : List Token → A → Type 0) : List Token → List A → Type 0 where
  one : {ts : List Token} {x : A} → R ts x → Separated R ts (x ∷ [])
  more : {a b : List Token} {x : A} {xs : List A} (p : Place) → R a x → Separated R b xs → Separated R (a ++ sign signs.Comma p ∷ b) (x ∷ xs)
