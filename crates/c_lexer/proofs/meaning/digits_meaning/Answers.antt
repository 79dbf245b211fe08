use Rattle.std.proofs.Common.{◌≤◌, ℕ, Bool, List, sym, subst}
use Rattle.c_lexer.specs.declared.constant.Base.{Base}
use Rattle.c_lexer.specs.declared.meaning.Meaning.TheVariants.{Is}
use Rattle.c_lexer.specs.declared.piece.Kind.TheVariants.{Digits}
use Rattle.c_lexer.specs.declared.token.TokenKind.TheVariants.{Number}
use Rattle.c_lexer.specs.Constants.{HasValue, IsConstant, greatest, is_unsigned, radix, worth}
use Rattle.c_lexer.specs.Tokens.{Means, number, too_large, no_number}
use Rattle.c_lexer.proofs.meaning.digits_meaning.Goals as goal

with_value : (s : Bool) (names : List (List ℕ)) (at : ℕ) (bytes : List ℕ) (base : Base) (digits suffix : List ℕ) (value : ℕ) (unsigned : Bool) → IsConstant bytes base digits suffix → HasValue base digits suffix value unsigned → Means s names at bytes Digits (Is (Number value unsigned))
with_value s names at bytes base digits suffix value unsigned c v =
    let means : Means s names at bytes Digits (Is (Number (worth (radix base) digits) (is_unsigned suffix (worth (radix base) digits)))) = number base digits suffix c (subst (λ n. n ≤ greatest base suffix) (sym v.worth_is) v.fits) in
    subst (λ u. Means s names at bytes Digits (Is (Number value u))) (sym v.unsigned_is) (subst (λ n. Means s names at bytes Digits (Is (Number n (is_unsigned suffix n)))) v.worth_is means)

pub returns-in-NotOne : goal.returns-in-NotOne
returns-in-NotOne c = λ s names. no_number c.in-NotOne.ensures

pub returns-in-TooLarge : goal.returns-in-TooLarge
returns-in-TooLarge c = λ s names. let h = c.in-TooLarge.ensures in too_large h.0 h.1 h.2 h.3 h.4

pub returns-in-Fits : goal.returns-in-Fits
returns-in-Fits c = λ s names. let h = c.in-Fits.ensures in with_value s names c.args.at c.args.bytes.now h.0 h.1 h.2 c.in-Fits.value c.in-Fits.unsigned h.3 h.4
