-- Specifiers of a declaration, ISO/IEC 9899 6.7.1 to 6.7.3: distinct words in any order.
use Rattle.std.specs.Prelude.{◌≡◌, List, [], ◌∷◌, ◌++◌, Option, Some, None, Bool, true, false, not, ◌&&◌, ◌||◌, if◌then◌else◌}
use Rattle.c_lexer.specs.declared.token.Token.{Token}
use Rattle.c_lexer.specs.declared.token.Keyword.{Keyword}
use Rattle.c_lexer.specs.declared.token.Keyword.TheVariants as words
use Rattle.c_syntax.specs.declared.tree.Ty.{Ty}
use Rattle.c_syntax.specs.declared.tree.Ty.TheVariants as types
use Rattle.c_grammar.specs.declared.specifiers.Specifiers.{Specifiers}
use Rattle.c_grammar.specs.Places.{Place, word}

-- no word
abbrev pub no_words : Specifiers
no_words = record { int = false; signed = false; unsigned = false; void = false; is_const = false; is_static = false }

-- one more word, which was not there; None of any other
abbrev pub with_word : Keyword → Specifiers → Option Specifiers
with_word words.Int s = if s.int then None else Some (record s { int = true })
with_word words.Signed s = if s.signed then None else Some (record s { signed = true })
with_word words.Unsigned s = if s.unsigned then None else Some (record s { unsigned = true })
with_word words.Void s = if s.void then None else Some (record s { void = true })
with_word words.Const s = if s.is_const then None else Some (record s { is_const = true })
with_word words.Static s = if s.is_static then None else Some (record s { is_static = true })
with_word _ s = None

-- The tokens are distinct words, and these are they.
pub data Spells : List Token → Specifiers → Type 0 where
  none : Spells [] no_words
  more : {ts : List Token} {s after : Specifiers} (w : Keyword) (p : Place) → Spells ts s → with_word w s ≡ Some after → Spells (ts ++ word w p ∷ []) after

-- a type of values (6.7.2): at least one of `int`, `signed` and `unsigned`, not both of the last two, and no `void`
abbrev pub is_value : Specifiers → Bool
is_value s = (s.int || s.signed || s.unsigned) && not (s.signed && s.unsigned) && not s.void

-- what a local variable or a parameter may have
abbrev pub is_local : Specifiers → Bool
is_local s = is_value s && not s.is_static

-- `void` alone
abbrev pub is_void : Specifiers → Bool
is_void s = s.void && not (s.int || s.signed || s.unsigned)

-- what a function may have
abbrev pub is_function : Specifiers → Bool
is_function s = is_value s || is_void s

-- the type that they name
abbrev pub type_of : Specifiers → Ty
type_of s = if s.void then types.Void else (if s.unsigned then types.Unsigned else types.Int)
