-- A text has one result, and its tokens lie in it in order.
use Rattle.std.proofs.Common.{◌≡◌, ◌≤◌, ◌<◌, ◌+◌, ℕ, Bool, List, [], ◌∷◌, length, take, drop, Result, Ok, Err, refl, sym, ap, ◌∙◌, subst, arith, zero-add}
use Rattle.std.proofs.lemmas.List.{length-drop}
use Rattle.c_lexer.specs.declared.constant.Base.{Base}
use Rattle.c_lexer.specs.declared.error.LexError.{LexError}
use Rattle.c_lexer.specs.declared.meaning.Meaning.{Meaning}
use Rattle.c_lexer.specs.declared.meaning.Meaning.TheVariants.{Is}
use Rattle.c_lexer.specs.declared.piece.Kind.{Kind}
use Rattle.c_lexer.specs.declared.token.Token.{Token}
use Rattle.c_lexer.specs.declared.token.TokenKind.{TokenKind}
use Rattle.c_lexer.specs.declared.token.TokenKind.TheVariants as tokens
use Rattle.c_lexer.specs.Constants.{radix, worth, greatest, is_unsigned}
use Rattle.c_lexer.specs.Pieces.{IsLongest}
use Rattle.c_lexer.specs.Tokens.{Means, blank, line_comment, block_comment, line_marker, open_comment, sign, reserved, name, number, too_large, no_number, TokensFrom, done, no_piece, piece, GoesOn, skipped, token, fault, with_front, Tokens, HasOneResult, ArePlaced}
use Rattle.c_lexer.proofs.Longest.{has_byte, same_kind}
use Rattle.c_lexer.proofs.Splits.{SameConstant, one_constant}
use Rattle.c_lexer.proofs.Tables.{one_word}

-- what is said of the base, the digits and the suffix of a constant is said of those of the same constant
along : (P : Base → List ℕ → List ℕ → Type 0) {base other : Base} {digits suffix others tail : List ℕ} → SameConstant base other digits suffix others tail → P base digits suffix → P other others tail
along P {base} {other} {digits} {suffix} {others} {tail} e h = subst (P other others) e.suffixes (subst (λ d. P other d suffix) e.digits_are (subst (λ b. P b digits suffix) e.bases h))

abbrev number_meaning : Base → List ℕ → List ℕ → Meaning
number_meaning base digits suffix = Is (tokens.Number (worth (radix base) digits) (is_unsigned suffix (worth (radix base) digits)))

same_number : {base other : Base} {digits suffix others tail : List ℕ} → SameConstant base other digits suffix others tail → number_meaning base digits suffix ≡ number_meaning other others tail
same_number {base} {other} {digits} {suffix} {others} {tail} e = along (λ b d s. number_meaning base digits suffix ≡ number_meaning b d s) e refl

not_both : {base other : Base} {digits suffix others tail : List ℕ} → SameConstant base other digits suffix others tail → worth (radix base) digits ≤ greatest base suffix → greatest other tail < worth (radix other) others → ⊥
not_both {base} {other} {digits} {suffix} {others} {tail} e few many =
    let moved : worth (radix other) others ≤ greatest other tail = along (λ b d s. worth (radix b) d ≤ greatest b s) e few in
    omega arith

one_meaning : {s : Bool} {names : List (List ℕ)} {at : ℕ} {bytes : List ℕ} {kind : Kind} {m n : Meaning} → Means s names at bytes kind m → Means s names at bytes kind n → m ≡ n
one_meaning blank blank = refl
one_meaning line_comment line_comment = refl
one_meaning block_comment block_comment = refl
one_meaning line_marker line_marker = refl
one_meaning open_comment open_comment = refl
one_meaning sign sign = refl
one_meaning (reserved j e) (reserved k f) = ap (λ w. Is (tokens.Word w)) (one_word j k (sym e ∙ f))
one_meaning (reserved j e) (name nil) = absurd (nil j e)
one_meaning (name nil) (reserved k f) = absurd (nil k f)
one_meaning (name nil) (name never) = refl
one_meaning {bytes = bytes} (number b d s c few) (number b' d' s' c' few') = same_number (one_constant bytes b b' d s d' s' c c')
one_meaning {bytes = bytes} (number b d s c few) (too_large b' d' s' c' many) = absurd (not_both (one_constant bytes b b' d s d' s' c c') few many)
one_meaning (number b d s c few) (no_number nil) = absurd (nil b d s c)
one_meaning {bytes = bytes} (too_large b d s c many) (number b' d' s' c' few) = absurd (not_both (one_constant bytes b' b d' s' d s c' c) few many)
one_meaning (too_large b d s c many) (too_large b' d' s' c' many') = refl
one_meaning (too_large b d s c many) (no_number nil) = absurd (nil b d s c)
one_meaning (no_number nil) (number b d s c few) = absurd (nil b d s c)
one_meaning (no_number nil) (too_large b d s c many) = absurd (nil b d s c)
one_meaning (no_number nil) (no_number never) = refl

-- one piece with all that follows it
record Step (s : Bool) (names : List (List ℕ)) (at : ℕ) (rest : List ℕ) (result : Result (List Token) LexError) (size : ℕ) (kind : Kind) (meaning : Meaning) : Type 0 where
  longest : IsLongest s rest size kind
  means : Means s names at (take size rest) kind meaning
  goes : GoesOn meaning names at size rest result

same_size : {s : Bool} {rest : List ℕ} {size more : ℕ} {kind other : Kind} → IsLongest s rest size kind → IsLongest s rest more other → more ≡ size
same_size {s} {rest} {size} {more} {kind} {other} a b = let up : size ≤ more = b.longest size kind a.begins in let down : more ≤ size = a.longest more other b.begins in omega arith

-- the other piece is the same
goes_same : {s : Bool} {names : List (List ℕ)} {at : ℕ} {rest : List ℕ} {one two : Result (List Token) LexError} {size more : ℕ} {kind other : Kind} {m n : Meaning}
    → Step s names at rest one size kind m → Step s names at rest two more other n → GoesOn m names at size rest two
goes_same {s} {names} {at} {rest} {one} {two} {size} {more} {kind} {other} {m} {n} a b =
    let sized : Step s names at rest two size other n = subst (λ z. Step s names at rest two z other n) (same_size a.longest b.longest) b in
    let kinds_are : other ≡ kind = same_kind s rest size other kind sized.longest.begins a.longest.begins in
    let kinded : Step s names at rest two size kind n = subst (λ k. Step s names at rest two size k n) kinds_are sized in
    subst (λ k. GoesOn k names at size rest two) (one_meaning kinded.means a.means) kinded.goes

no_front : {s : Bool} {size : ℕ} {kind : Kind} → IsLongest s [] size kind → ⊥
no_front {s} {size} {kind} h = let some : 0 < size = has_byte s [] size kind h.begins in omega (arith, h.begins.fits)

mutual
  one_from : {s : Bool} {names : List (List ℕ)} {at : ℕ} {rest : List ℕ} {a b : Result (List Token) LexError} → TokensFrom s names at rest a → TokensFrom s names at rest b → a ≡ b
  one_from done done = refl
  one_from done (no_piece some none) = absurd (omega arith)
  one_from done (piece size kind meaning longest means goes) = absurd (no_front longest)
  one_from (no_piece some none) done = absurd (omega arith)
  one_from (no_piece some none) (no_piece some' none') = refl
  one_from (no_piece some none) (piece size kind meaning longest means goes) = absurd (none size kind longest.begins)
  one_from (piece size kind meaning longest means goes) done = absurd (no_front longest)
  one_from (piece size kind meaning longest means goes) (no_piece some none) = absurd (none size kind longest.begins)
  one_from {s} {names} {at} {rest} {a} {b} (piece size kind meaning longest means goes) (piece size' kind' meaning' longest' means' goes') =
      let first : Step s names at rest a size kind meaning = record { longest = longest; means = means; goes = goes } in
      let other : Step s names at rest b size' kind' meaning' = record { longest = longest'; means = means'; goes = goes' } in
      one_goes goes (goes_same first other)

  one_goes : {meaning : Meaning} {names : List (List ℕ)} {at size : ℕ} {rest : List ℕ} {a b : Result (List Token) LexError} → GoesOn meaning names at size rest a → GoesOn meaning names at size rest b → a ≡ b
  one_goes (skipped s d) (skipped s' d') = one_from d d'
  one_goes {at = at} {size = size} (token kind r d) (token kind' r' d') = ap (with_front (record { kind = kind; at = at; length = size } ∷ [])) (one_from d d')
  one_goes (fault e) (fault e') = refl

pub one_result : HasOneResult
one_result text a b p q = one_from p q

-- the tokens of a result lie between two places
abbrev pub HasPlaced : ℕ → Result (List Token) LexError → ℕ → Type 0
HasPlaced from (Ok ts) end = ArePlaced from ts end
HasPlaced from (Err e) end = Unit {0}

later : (from after : ℕ) (ts : List Token) (end : ℕ) → from ≤ after → ArePlaced after ts end → ArePlaced from ts end
later from after [] end h p = omega arith
later from after (t ∷ ts) end h p = (omega (arith, p.0), p.1, p.2)

skip_placed : (from after : ℕ) (r : Result (List Token) LexError) (end : ℕ) → from ≤ after → HasPlaced after r end → HasPlaced from r end
skip_placed from after (Ok ts) end h p = later from after ts end h p
skip_placed from after (Err e) end h p = tt

token_placed : (kind : TokenKind) (at size : ℕ) (r : Result (List Token) LexError) (end : ℕ) → 0 < size → HasPlaced (at + size) r end → HasPlaced at (with_front (record { kind = kind; at = at; length = size } ∷ []) r) end
token_placed kind at size (Ok ts) end some p = (omega arith, omega arith, p)
token_placed kind at size (Err e) end some p = tt

same_end : (at size : ℕ) (rest : List ℕ) → size ≤ length rest → (at + size) + length (drop size rest) ≡ at + length rest
same_end at size rest fits = omega (arith, length-drop size rest)

mutual
  from_placed : {s : Bool} {names : List (List ℕ)} {at : ℕ} {rest : List ℕ} {r : Result (List Token) LexError} → TokensFrom s names at rest r → HasPlaced at r (at + length rest)
  from_placed done = omega arith
  from_placed (no_piece some none) = tt
  from_placed {s} {names} {at} {rest} (piece size kind meaning longest means goes) = goes_placed longest.begins.fits (has_byte s rest size kind longest.begins) goes

  goes_placed : {meaning : Meaning} {names : List (List ℕ)} {at size : ℕ} {rest : List ℕ} {r : Result (List Token) LexError} → size ≤ length rest → 0 < size → GoesOn meaning names at size rest r → HasPlaced at r (at + length rest)
  goes_placed {at = at} {size = size} {rest = rest} {r = r} fits some (skipped s d) = skip_placed at (at + size) r (at + length rest) (omega arith) (subst (HasPlaced (at + size) r) (same_end at size rest fits) (from_placed d))
  goes_placed {at = at} {size = size} {rest = rest} fits some (token kind r d) = token_placed kind at size r (at + length rest) some (subst (HasPlaced (at + size) r) (same_end at size rest fits) (from_placed d))
  goes_placed fits some (fault e) = tt

pub are_placed : (text : List ℕ) (ts : List Token) → Tokens text (Ok ts) → ArePlaced 0 ts (length text)
are_placed text ts h = subst (ArePlaced 0 ts) (zero-add (length text)) (from_placed h)
