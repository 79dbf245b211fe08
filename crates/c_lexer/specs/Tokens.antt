-- The tokens of a text, or its first fault.
use Rattle.std.specs.Prelude.{ℕ, ◌≡◌, ◌≤◌, ◌<◌, ◌+◌, List, [], ◌∷◌, ◌++◌, Bool, true, false, length, take, drop, codes, bytes_eq, Result, Ok, Err}
use Rattle.std.specs.Prelude.{if◌then◌else◌}
use Rattle.std.specs.List.{position_or_len, list_any}
use Rattle.c_lexer.specs.declared.token.Keyword.{Keyword}
use Rattle.c_lexer.specs.declared.token.Punct.{Punct}
use Rattle.c_lexer.specs.declared.token.Token.{Token}
use Rattle.c_lexer.specs.declared.token.TokenKind.{TokenKind}
use Rattle.c_lexer.specs.declared.token.TokenKind.TheVariants as tokens
use Rattle.c_lexer.specs.declared.error.LexError.{LexError}
use Rattle.c_lexer.specs.declared.error.LexError.TheVariants.{BadToken, LiteralTooLarge, CommentOpen}
use Rattle.c_lexer.specs.declared.piece.Kind.{Kind}
use Rattle.c_lexer.specs.declared.piece.Kind.TheVariants as kinds
use Rattle.c_lexer.specs.declared.constant.Base.{Base}
use Rattle.c_lexer.specs.Bytes.{line_after}
use Rattle.c_lexer.specs.Constants.{IsConstant, radix, worth, greatest, is_unsigned}
use Rattle.c_lexer.specs.Pieces.{IsLongest, HasNoPiece}
use Rattle.c_lexer.specs.Spelling.{word_spelling}
use Rattle.c_lexer.specs.declared.meaning.Meaning.{Meaning}
use Rattle.c_lexer.specs.declared.meaning.Meaning.TheVariants.{Skipped, Is, Wrong}

-- the names that have their number from the start: `main` 0, `in_word` 1, `out_word` 2
abbrev pub first_names : List (List ℕ)
first_names = codes "main" ∷ codes "in_word" ∷ codes "out_word" ∷ []

-- the number of a name: its place among the distinct spellings so far, and the next number where it is new
abbrev pub number_of : List (List ℕ) → List ℕ → ℕ
number_of names spelling = position_or_len (bytes_eq spelling) names

-- the distinct spellings after one more name
abbrev pub with_name : List (List ℕ) → List ℕ → List (List ℕ)
with_name names spelling = if list_any (bytes_eq spelling) names then names else names ++ spelling ∷ []

-- the distinct spellings after a token that is spelled so
abbrev pub names_after : List (List ℕ) → List ℕ → TokenKind → List (List ℕ)
names_after names spelling (tokens.Name number) = with_name names spelling
names_after names spelling (tokens.Number value is_unsigned) = names
names_after names spelling (tokens.Word word) = names
names_after names spelling (tokens.Sign sign) = names

-- What a piece at a place means, by its kind and its bytes: it is skipped, it is a token, or it is wrong.
pub data Means (starts_line : Bool) (names : List (List ℕ)) (at : ℕ) (bytes : List ℕ) : Kind → Meaning → Type 0 where
  blank : {b : ℕ} → Means starts_line names at bytes (kinds.Blank b) (Skipped (line_after starts_line b))
  line_comment : Means starts_line names at bytes kinds.LineComment (Skipped false)
  block_comment : Means starts_line names at bytes kinds.BlockComment (Skipped false)
  line_marker : Means starts_line names at bytes kinds.LineMarker (Skipped false)
  open_comment : Means starts_line names at bytes kinds.OpenComment (Wrong (CommentOpen at))
  sign : {sign : Punct} → Means starts_line names at bytes (kinds.Sign sign) (Is (tokens.Sign sign))
  reserved : (word : Keyword) → bytes ≡ word_spelling word → Means starts_line names at bytes kinds.Word (Is (tokens.Word word))
  name : ((word : Keyword) → bytes ≡ word_spelling word → ⊥) → Means starts_line names at bytes kinds.Word (Is (tokens.Name (number_of names bytes)))
  number : (base : Base) (digits suffix : List ℕ) → IsConstant bytes base digits suffix → worth (radix base) digits ≤ greatest base suffix →
      Means starts_line names at bytes kinds.Digits (Is (tokens.Number (worth (radix base) digits) (is_unsigned suffix (worth (radix base) digits))))
  too_large : (base : Base) (digits suffix : List ℕ) → IsConstant bytes base digits suffix → greatest base suffix < worth (radix base) digits →
      Means starts_line names at bytes kinds.Digits (Wrong (LiteralTooLarge at))
  no_number : ((base : Base) (digits suffix : List ℕ) → IsConstant bytes base digits suffix → ⊥) →
      Means starts_line names at bytes kinds.Digits (Wrong (BadToken at))

-- the tokens of a text behind some that stand before them
abbrev pub with_front : List Token → Result (List Token) LexError → Result (List Token) LexError
with_front front (Ok tokens) = Ok (front ++ tokens)
with_front front (Err error) = Err error

mutual
  -- What the rest of a text at a place gives, from left to right: nothing more at its end, a fault where no piece begins,
  -- else what its longest piece gives.
  pub data TokensFrom : Bool → List (List ℕ) → ℕ → List ℕ → Result (List Token) LexError → Type 0 where
    done : {starts_line : Bool} {names : List (List ℕ)} {at : ℕ} → TokensFrom starts_line names at [] (Ok [])
    no_piece : {starts_line : Bool} {names : List (List ℕ)} {at : ℕ} {rest : List ℕ} → 0 < length rest → HasNoPiece starts_line rest →
        TokensFrom starts_line names at rest (Err (BadToken at))
    piece : {starts_line : Bool} {names : List (List ℕ)} {at : ℕ} {rest : List ℕ} {result : Result (List Token) LexError} (size : ℕ) (kind : Kind)
        (meaning : Meaning) → IsLongest starts_line rest size kind → Means starts_line names at (take size rest) kind meaning →
        GoesOn meaning names at size rest result → TokensFrom starts_line names at rest result

  -- What a piece of some size gives with what follows it: a blank or a comment nothing, a token itself, a fault the end.
  pub data GoesOn : Meaning → List (List ℕ) → ℕ → ℕ → List ℕ → Result (List Token) LexError → Type 0 where
    skipped : {names : List (List ℕ)} {at size : ℕ} {rest : List ℕ} {result : Result (List Token) LexError} (starts_line : Bool) →
        TokensFrom starts_line names (at + size) (drop size rest) result → GoesOn (Skipped starts_line) names at size rest result
    token : {names : List (List ℕ)} {at size : ℕ} {rest : List ℕ} (kind : TokenKind) (result : Result (List Token) LexError) →
        TokensFrom false (names_after names (take size rest) kind) (at + size) (drop size rest) result →
        GoesOn (Is kind) names at size rest (with_front (record { kind = kind; at = at; length = size } ∷ []) result)
    fault : {names : List (List ℕ)} {at size : ℕ} {rest : List ℕ} (error : LexError) → GoesOn (Wrong error) names at size rest (Err error)

-- A text gives these tokens, or this fault first.
abbrev pub Tokens : List ℕ → Result (List Token) LexError → Type 0
Tokens text result = TokensFrom true first_names 0 text result

-- A text gives one result.
abbrev pub HasOneResult : Type 0
HasOneResult = (text : List ℕ) (one other : Result (List Token) LexError) → Tokens text one → Tokens text other → one ≡ other

-- Each text gives a result.
abbrev pub HasSomeResult : Type 0
HasSomeResult = (text : List ℕ) → (result : Result (List Token) LexError) × Tokens text result

-- Each token has a byte and begins where the one before it ends or later, and the last ends no later than the text.
abbrev pub ArePlaced : ℕ → List Token → ℕ → Type 0
ArePlaced from [] end = from ≤ end
ArePlaced from (t ∷ ts) end = (from ≤ t.at) × (1 ≤ t.length) × ArePlaced (t.at + t.length) ts end
