-- What the reader of a text keeps from piece to piece.
use Rattle.std.proofs.Common.{◌≡◌, ◌≤◌, ◌<◌, ◌+◌, ℕ, zero, suc, Bool, true, false, List, [], ◌∷◌, ◌++◌, length, take, drop, Result, Ok, Err, refl, sym, ap, ◌∙◌, subst, arith, if◌then◌else◌, bytes_eq}
use Rattle.std.specs.List.{list_any}
use Rattle.std.proofs.lemmas.List.{append_assoc, append-nil, length-append, length-drop}
use Rattle.std.proofs.Common.{zero-add}
use Rattle.std.proofs.Math.ListN.{drop_of_length-le}
use Rattle.c_lexer.specs.declared.error.LexError.{LexError}
use Rattle.c_lexer.specs.declared.error.LexError.TheVariants.{BadToken}
use Rattle.c_lexer.specs.declared.meaning.Meaning.{Meaning}
use Rattle.c_lexer.specs.declared.meaning.Meaning.TheVariants.{Skipped, Is, Wrong}
use Rattle.c_lexer.specs.declared.piece.Kind.{Kind}
use Rattle.c_lexer.specs.declared.token.Token.{Token}
use Rattle.c_lexer.specs.declared.token.TokenKind.{TokenKind}
use Rattle.c_lexer.specs.declared.token.TokenKind.TheVariants as tokens
use Rattle.c_lexer.specs.Names.{names_behind, Adds}
use Rattle.c_lexer.specs.Pieces.{IsLongest, HasNoPiece}
use Rattle.c_lexer.specs.Tokens.{Means, TokensFrom, done, no_piece, piece, GoesOn, skipped, token, fault, with_front, first_names, names_after, Tokens}
use Rattle.c_lexer.proofs.Longest.{has_byte}

-- What is known at a place: whatever the rest of the text gives there, the text gives behind the tokens so far.
pub record IsLexed (text : List ℕ) (starts_line : Bool) (names : List (List ℕ)) (at : ℕ) (front : List Token) : Type 0 where
  pub within : at ≤ length text
  pub few : length names ≤ at + 3
  pub builds : (result : Result (List Token) LexError) → TokensFrom starts_line names at (drop at text) result → Tokens text (with_front front result)

with_nothing : (r : Result (List Token) LexError) → with_front [] r ≡ r
with_nothing (Ok ts) = refl
with_nothing (Err e) = refl

with_two : (front : List Token) (t : Token) (r : Result (List Token) LexError) → with_front (front ++ t ∷ []) r ≡ with_front front (with_front (t ∷ []) r)
with_two front t (Ok ts) = ap Ok (append_assoc front (t ∷ []) ts)
with_two front t (Err e) = refl

drop-nil : (n : ℕ) → ◌≡◌ {A = List ℕ} (drop n []) []
drop-nil zero = refl
drop-nil (suc n) = refl

drop-drop : (at size : ℕ) (text : List ℕ) → drop size (drop at text) ≡ drop (at + size) text
drop-drop zero size text = ap (λ n. drop n text) (sym (zero-add size))
drop-drop (suc at) size [] = drop-nil size ∙ sym (drop-nil (suc at + size))
drop-drop (suc at) size (b ∷ bs) = drop-drop at size bs ∙ ap (λ n. drop n (b ∷ bs)) (let e : suc (at + size) ≡ suc at + size = omega arith in e)

pub lexed_first : (text : List ℕ) (names : List (List ℕ)) → names ≡ first_names → IsLexed text true names 0 []
lexed_first text names e = record {
  within = omega arith;
  few = omega (arith, ap length e);
  builds = λ r d. subst (Tokens text) (sym (with_nothing r)) (subst (λ n. TokensFrom true n 0 text r) e d);
}

few_more : (names : List (List ℕ)) (bytes : List ℕ) (b : Bool) → length (if b then names else names ++ bytes ∷ []) ≤ length names + 1
few_more names bytes true = omega arith
few_more names bytes false = omega (arith, length-append names (bytes ∷ []))

few_after : (names : List (List ℕ)) (bytes : List ℕ) (kind : TokenKind) → length (names_after names bytes kind) ≤ length names + 1
few_after names bytes (tokens.Name n) = few_more names bytes (list_any (bytes_eq bytes) names)
few_after names bytes (tokens.Number v u) = omega arith
few_after names bytes (tokens.Word w) = omega arith
few_after names bytes (tokens.Sign s) = omega arith

few_behind : (names : List (List ℕ)) (bytes : List ℕ) (meaning : Meaning) → length (names_behind names bytes meaning) ≤ length names + 1
few_behind names bytes (Skipped s) = omega arith
few_behind names bytes (Is kind) = few_after names bytes kind
few_behind names bytes (Wrong e) = omega arith

-- how a piece takes a result behind it to the result from it on
goes_on : (text : List ℕ) (names names' : List (List ℕ)) (at size : ℕ) (front front' : List Token) (s' : Bool) (meaning : Meaning) (r : Result (List Token) LexError)
    → Adds meaning at size s' front front' → names' ≡ names_behind names (take size (drop at text)) meaning → TokensFrom s' names' (at + size) (drop (at + size) text) r
    → (whole : Result (List Token) LexError) × GoesOn meaning names at size (drop at text) whole × (with_front front whole ≡ with_front front' r)
goes_on text names names' at size front front' s' (Skipped s) r adds e d = (
  r,
  skipped s (subst (λ rest. TokensFrom s names (at + size) rest r) (sym (drop-drop at size text)) (subst (λ n. TokensFrom s n (at + size) (drop (at + size) text) r) e (subst (λ b. TokensFrom b names' (at + size) (drop (at + size) text) r) adds.0 d))),
  ap (λ f. with_front f r) (sym adds.1),
)
goes_on text names names' at size front front' s' (Is kind) r adds e d =
    let t : Token = record { kind = kind; at = at; length = size } in (
      with_front (t ∷ []) r,
      token kind r (subst (λ rest. TokensFrom false (names_after names (take size (drop at text)) kind) (at + size) rest r) (sym (drop-drop at size text)) (subst (λ n. TokensFrom false n (at + size) (drop (at + size) text) r) e (subst (λ b. TokensFrom b names' (at + size) (drop (at + size) text) r) adds.0 d))),
      sym (with_two front t r) ∙ ap (λ f. with_front f r) (sym adds.1),
    )
goes_on text names names' at size front front' s' (Wrong error) r adds e d = absurd adds

module _ (text : List ℕ) (s : Bool) (names : List (List ℕ)) (at : ℕ) (front : List Token) (lexed : IsLexed text s names at front) where
  -- at the end of the text
  pub lexed_end : length text ≤ at → Tokens text (Ok front)
  lexed_end past =
      let empty : drop at text ≡ [] = drop_of_length-le text past in
      subst (λ ts. Tokens text (Ok ts)) (append-nil front) (lexed.builds (Ok []) (subst (λ rest. TokensFrom s names at rest (Ok [])) (sym empty) done))

  -- where no piece begins
  pub lexed_bad : at < length text → HasNoPiece s (drop at text) → Tokens text (Err (BadToken at))
  lexed_bad more none = lexed.builds (Err (BadToken at)) (no_piece (omega (arith, length-drop at text)) none)

  module _ (size : ℕ) (kind : Kind) (meaning : Meaning) (longest : IsLongest s (drop at text) size kind) (means : Means s names at (take size (drop at text)) kind meaning) where
    -- at a fault
    pub lexed_fault : (error : LexError) → meaning ≡ Wrong error → Tokens text (Err error)
    lexed_fault error e = lexed.builds (Err error) (piece size kind meaning longest means (subst (λ m. GoesOn m names at size (drop at text) (Err error)) (sym e) (fault error)))

    -- behind a piece
    pub lexed_next : (s' : Bool) (names' : List (List ℕ)) (front' : List Token) → Adds meaning at size s' front front' → names' ≡ names_behind names (take size (drop at text)) meaning → IsLexed text s' names' (at + size) front'
    lexed_next s' names' front' adds e = record {
      within = omega (arith, longest.begins.fits, length-drop at text, lexed.within);
      few = (let some : 0 < size = has_byte s (drop at text) size kind longest.begins in
          omega (arith, ap length e, few_behind names (take size (drop at text)) meaning, lexed.few));
      builds = λ r d. let g = goes_on text names names' at size front front' s' meaning r adds e d in
          subst (Tokens text) g.2 (lexed.builds g.0 (piece size kind meaning longest means g.1));
    }

-- A piece that was read at a place: the rest of the text there, its bytes, and its meaning.
pub record IsRead (text : List ℕ) (s : Bool) (names : List (List ℕ)) (at : ℕ) (rest bytes : List ℕ) (size : ℕ) (kind : Kind) (meaning : Meaning) : Type 0 where
  pub rest_is : rest ≡ drop at text
  pub bytes_are : bytes ≡ take size rest
  pub longest : IsLongest s rest size kind
  pub means : Means s names at bytes kind meaning

module _ (text : List ℕ) (s : Bool) (names : List (List ℕ)) (at : ℕ) (front : List Token) (rest bytes : List ℕ) (size : ℕ) (kind : Kind) (meaning : Meaning) (lexed : IsLexed text s names at front) (read : IsRead text s names at rest bytes size kind meaning) where
  bytes_at : bytes ≡ take size (drop at text)
  bytes_at = read.bytes_are ∙ ap (take size) read.rest_is

  longest_at : IsLongest s (drop at text) size kind
  longest_at = subst (λ r. IsLongest s r size kind) read.rest_is read.longest

  means_at : Means s names at (take size (drop at text)) kind meaning
  means_at = subst (λ b. Means s names at b kind meaning) bytes_at read.means

  pub read_fault : (error : LexError) → meaning ≡ Wrong error → Tokens text (Err error)
  read_fault = lexed_fault text s names at front lexed size kind meaning longest_at means_at

  pub read_next : (s' : Bool) (names' : List (List ℕ)) (front' : List Token) → Adds meaning at size s' front front' → names' ≡ names_behind names bytes meaning → IsLexed text s' names' (at + size) front'
  read_next s' names' front' adds e = lexed_next text s names at front lexed size kind meaning longest_at means_at s' names' front' adds (e ∙ ap (λ b. names_behind names b meaning) bytes_at)
