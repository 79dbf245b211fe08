-- Each reserved word and each punctuator stands in its table, so a test of the table holds of each.
use Rattle.std.proofs.Common.{◌≡◌, ℕ, zero, suc, ◌<◌, ◌≤◌, Bool, true, false, ◌&&◌, List, [], ◌∷◌, length, get_or, not, ◌||◌, refl, sym, ap, ◌∙◌, subst, arith, lit<}
use Rattle.c_lexer.specs.declared.spelling.TheConstants.{KEYWORDS, PUNCTS}
use Rattle.c_lexer.specs.declared.token.Keyword.{Keyword}
use Rattle.c_lexer.specs.declared.token.Keyword.TheVariants as words
use Rattle.c_lexer.specs.declared.token.Punct.{Punct}
use Rattle.c_lexer.specs.declared.token.Punct.TheVariants as signs
use Rattle.c_lexer.specs.Spelling.{word_spelling, sign_spelling}
use Rattle.std.specs.List.{list_all}
use Rattle.std.proofs.lemmas.Bool.{false≢true}
use Rattle.std.proofs.Common.{◌≢◌, leb, eqb, leb-true, le-leb, eqb-true, find, bytes_eq, Option, Some}
use Rattle.c_lexer.specs.declared.byte.Class.{Class}
use Rattle.c_lexer.specs.declared.byte.Class.TheVariants.{Blank, Letter, Digit, Other}
use Rattle.c_lexer.specs.Bytes.{class_of}

-- x stands at a place of the list, whatever is taken past the end
pub record StandsIn {A : Type 0} (xs : List A) (x : A) : Type 0 where
  pub place : ℕ
  pub within : place < length xs
  pub is : get_or xs place x ≡ x

pub word_stands : (k : Keyword) → StandsIn KEYWORDS k
word_stands words.Int = record { place = 0; within = lit< tt; is = refl }
word_stands words.Unsigned = record { place = 1; within = lit< tt; is = refl }
word_stands words.Signed = record { place = 2; within = lit< tt; is = refl }
word_stands words.Void = record { place = 3; within = lit< tt; is = refl }
word_stands words.Const = record { place = 4; within = lit< tt; is = refl }
word_stands words.Static = record { place = 5; within = lit< tt; is = refl }
word_stands words.If = record { place = 6; within = lit< tt; is = refl }
word_stands words.Else = record { place = 7; within = lit< tt; is = refl }
word_stands words.While = record { place = 8; within = lit< tt; is = refl }
word_stands words.Do = record { place = 9; within = lit< tt; is = refl }
word_stands words.For = record { place = 10; within = lit< tt; is = refl }
word_stands words.Break = record { place = 11; within = lit< tt; is = refl }
word_stands words.Continue = record { place = 12; within = lit< tt; is = refl }
word_stands words.Return = record { place = 13; within = lit< tt; is = refl }
word_stands words.Auto = record { place = 14; within = lit< tt; is = refl }
word_stands words.Case = record { place = 15; within = lit< tt; is = refl }
word_stands words.Char = record { place = 16; within = lit< tt; is = refl }
word_stands words.Default = record { place = 17; within = lit< tt; is = refl }
word_stands words.Double = record { place = 18; within = lit< tt; is = refl }
word_stands words.Enum = record { place = 19; within = lit< tt; is = refl }
word_stands words.Extern = record { place = 20; within = lit< tt; is = refl }
word_stands words.Float = record { place = 21; within = lit< tt; is = refl }
word_stands words.Goto = record { place = 22; within = lit< tt; is = refl }
word_stands words.Inline = record { place = 23; within = lit< tt; is = refl }
word_stands words.Long = record { place = 24; within = lit< tt; is = refl }
word_stands words.Register = record { place = 25; within = lit< tt; is = refl }
word_stands words.Restrict = record { place = 26; within = lit< tt; is = refl }
word_stands words.Short = record { place = 27; within = lit< tt; is = refl }
word_stands words.Sizeof = record { place = 28; within = lit< tt; is = refl }
word_stands words.Struct = record { place = 29; within = lit< tt; is = refl }
word_stands words.Switch = record { place = 30; within = lit< tt; is = refl }
word_stands words.Typedef = record { place = 31; within = lit< tt; is = refl }
word_stands words.Union = record { place = 32; within = lit< tt; is = refl }
word_stands words.Volatile = record { place = 33; within = lit< tt; is = refl }

pub sign_stands : (p : Punct) → StandsIn PUNCTS p
sign_stands signs.Plus = record { place = 0; within = lit< tt; is = refl }
sign_stands signs.Minus = record { place = 1; within = lit< tt; is = refl }
sign_stands signs.Star = record { place = 2; within = lit< tt; is = refl }
sign_stands signs.Slash = record { place = 3; within = lit< tt; is = refl }
sign_stands signs.Percent = record { place = 4; within = lit< tt; is = refl }
sign_stands signs.ShiftLeft = record { place = 5; within = lit< tt; is = refl }
sign_stands signs.ShiftRight = record { place = 6; within = lit< tt; is = refl }
sign_stands signs.Less = record { place = 7; within = lit< tt; is = refl }
sign_stands signs.Greater = record { place = 8; within = lit< tt; is = refl }
sign_stands signs.LessEqual = record { place = 9; within = lit< tt; is = refl }
sign_stands signs.GreaterEqual = record { place = 10; within = lit< tt; is = refl }
sign_stands signs.EqualEqual = record { place = 11; within = lit< tt; is = refl }
sign_stands signs.NotEqual = record { place = 12; within = lit< tt; is = refl }
sign_stands signs.And = record { place = 13; within = lit< tt; is = refl }
sign_stands signs.Or = record { place = 14; within = lit< tt; is = refl }
sign_stands signs.Caret = record { place = 15; within = lit< tt; is = refl }
sign_stands signs.Tilde = record { place = 16; within = lit< tt; is = refl }
sign_stands signs.Bang = record { place = 17; within = lit< tt; is = refl }
sign_stands signs.AndAnd = record { place = 18; within = lit< tt; is = refl }
sign_stands signs.OrOr = record { place = 19; within = lit< tt; is = refl }
sign_stands signs.Equal = record { place = 20; within = lit< tt; is = refl }
sign_stands signs.PlusEqual = record { place = 21; within = lit< tt; is = refl }
sign_stands signs.MinusEqual = record { place = 22; within = lit< tt; is = refl }
sign_stands signs.StarEqual = record { place = 23; within = lit< tt; is = refl }
sign_stands signs.SlashEqual = record { place = 24; within = lit< tt; is = refl }
sign_stands signs.PercentEqual = record { place = 25; within = lit< tt; is = refl }
sign_stands signs.ShiftLeftEqual = record { place = 26; within = lit< tt; is = refl }
sign_stands signs.ShiftRightEqual = record { place = 27; within = lit< tt; is = refl }
sign_stands signs.AndEqual = record { place = 28; within = lit< tt; is = refl }
sign_stands signs.OrEqual = record { place = 29; within = lit< tt; is = refl }
sign_stands signs.CaretEqual = record { place = 30; within = lit< tt; is = refl }
sign_stands signs.PlusPlus = record { place = 31; within = lit< tt; is = refl }
sign_stands signs.MinusMinus = record { place = 32; within = lit< tt; is = refl }
sign_stands signs.Question = record { place = 33; within = lit< tt; is = refl }
sign_stands signs.Colon = record { place = 34; within = lit< tt; is = refl }
sign_stands signs.Comma = record { place = 35; within = lit< tt; is = refl }
sign_stands signs.Semicolon = record { place = 36; within = lit< tt; is = refl }
sign_stands signs.OpenParen = record { place = 37; within = lit< tt; is = refl }
sign_stands signs.CloseParen = record { place = 38; within = lit< tt; is = refl }
sign_stands signs.OpenBrace = record { place = 39; within = lit< tt; is = refl }
sign_stands signs.CloseBrace = record { place = 40; within = lit< tt; is = refl }
sign_stands signs.OpenBracket = record { place = 41; within = lit< tt; is = refl }
sign_stands signs.CloseBracket = record { place = 42; within = lit< tt; is = refl }

both : (a b : Bool) → (a && b) ≡ true → (a ≡ true) × (b ≡ true)
both true b h = (refl, h)
both false b h = (h, absurd (false≢true h))

passes_at : {A : Type 0} (test : A → Bool) (xs : List A) (i : ℕ) (d : A) → i < length xs → list_all test xs ≡ true → test (get_or xs i d) ≡ true
passes_at test [] i d lt h = absurd (omega arith)
passes_at test (x ∷ xs) zero d lt h = (both (test x) (list_all test xs) h).0
passes_at test (x ∷ xs) (suc i) d lt h = passes_at test xs i d (omega arith) (both (test x) (list_all test xs) h).1

-- a test that each entry of the table passes holds of each punctuator
pub each_sign : (test : Punct → Bool) → list_all test PUNCTS ≡ true → (p : Punct) → test p ≡ true
each_sign test h p = let s = sign_stands p in subst (λ q. test q ≡ true) s.is (passes_at test PUNCTS s.place p s.within h)

abbrev is_other : Class → Bool
is_other Blank = false
is_other Letter = false
is_other Digit = false
is_other Other = true

other_is : (k : Class) → is_other k ≡ true → k ≡ Other
other_is Blank h = absurd (false≢true h)
other_is Letter h = absurd (false≢true h)
other_is Digit h = absurd (false≢true h)
other_is Other h = refl

-- what the first byte and the size of a spelling say
pub record IsSignLike (first second size : ℕ) : Type 0 where
  pub some : 1 ≤ size
  pub few : size ≤ 3
  pub other : class_of first ≡ Other
  pub no_hash : first ≢ 35
  pub slash : first ≡ 47 → size ≤ 2
  pub after_slash : first ≡ 47 → 2 ≤ size → second ≡ 61

abbrev unlike_hash : ℕ → Bool
unlike_hash first = not (eqb first 35)

abbrev short_slash : ℕ → ℕ → Bool
short_slash first size = not (eqb first 47) || leb size 2

abbrev equal_after_slash : ℕ → ℕ → ℕ → Bool
equal_after_slash first second size = not (eqb first 47) || (not (leb 2 size) || eqb second 61)

abbrev sign_like : ℕ → ℕ → ℕ → Bool
sign_like first second size = leb 1 size && (leb size 3 && (is_other (class_of first) && (unlike_hash first && (short_slash first size && equal_after_slash first second size))))

is_sign_like : (first second size : ℕ) → sign_like first second size ≡ true → IsSignLike first second size
is_sign_like first second size h =
    let a = both _ _ h in
    let b = both _ _ a.1 in
    let c = both _ _ b.1 in
    let d = both _ _ c.1 in
    let f = both _ _ d.1 in
    record {
      some = leb-true 1 size a.0;
      few = leb-true size 3 b.0;
      other = other_is _ c.0;
      no_hash = λ e. false≢true (subst (λ x. unlike_hash x ≡ true) e d.0);
      slash = λ e. leb-true size 2 (subst (λ x. short_slash x size ≡ true) e f.0);
      after_slash = λ e two. eqb-true second 61 (subst (λ b. (not b || eqb second 61) ≡ true) (le-leb 2 size two) (subst (λ x. equal_after_slash x second size ≡ true) e f.1));
    }

pub sign_spells : (p : Punct) → IsSignLike (get_or (sign_spelling p) 0 0) (get_or (sign_spelling p) 1 0) (length (sign_spelling p))
sign_spells p = is_sign_like _ _ _ (each_sign (λ q. sign_like (get_or (sign_spelling q) 0 0) (get_or (sign_spelling q) 1 0) (length (sign_spelling q))) refl p)

-- which reserved word has a spelling
abbrev spelled_word : List ℕ → Option Keyword
spelled_word text = find (λ k. bytes_eq (word_spelling k) text) KEYWORDS

word_again : (k : Keyword) → spelled_word (word_spelling k) ≡ Some k
word_again words.Int = refl
word_again words.Unsigned = refl
word_again words.Signed = refl
word_again words.Void = refl
word_again words.Const = refl
word_again words.Static = refl
word_again words.If = refl
word_again words.Else = refl
word_again words.While = refl
word_again words.Do = refl
word_again words.For = refl
word_again words.Break = refl
word_again words.Continue = refl
word_again words.Return = refl
word_again words.Auto = refl
word_again words.Case = refl
word_again words.Char = refl
word_again words.Default = refl
word_again words.Double = refl
word_again words.Enum = refl
word_again words.Extern = refl
word_again words.Float = refl
word_again words.Goto = refl
word_again words.Inline = refl
word_again words.Long = refl
word_again words.Register = refl
word_again words.Restrict = refl
word_again words.Short = refl
word_again words.Sizeof = refl
word_again words.Struct = refl
word_again words.Switch = refl
word_again words.Typedef = refl
word_again words.Union = refl
word_again words.Volatile = refl

-- which punctuator has a spelling
abbrev spelled_sign : List ℕ → Option Punct
spelled_sign text = find (λ p. bytes_eq (sign_spelling p) text) PUNCTS

sign_again : (p : Punct) → spelled_sign (sign_spelling p) ≡ Some p
sign_again signs.Plus = refl
sign_again signs.Minus = refl
sign_again signs.Star = refl
sign_again signs.Slash = refl
sign_again signs.Percent = refl
sign_again signs.ShiftLeft = refl
sign_again signs.ShiftRight = refl
sign_again signs.Less = refl
sign_again signs.Greater = refl
sign_again signs.LessEqual = refl
sign_again signs.GreaterEqual = refl
sign_again signs.EqualEqual = refl
sign_again signs.NotEqual = refl
sign_again signs.And = refl
sign_again signs.Or = refl
sign_again signs.Caret = refl
sign_again signs.Tilde = refl
sign_again signs.Bang = refl
sign_again signs.AndAnd = refl
sign_again signs.OrOr = refl
sign_again signs.Equal = refl
sign_again signs.PlusEqual = refl
sign_again signs.MinusEqual = refl
sign_again signs.StarEqual = refl
sign_again signs.SlashEqual = refl
sign_again signs.PercentEqual = refl
sign_again signs.ShiftLeftEqual = refl
sign_again signs.ShiftRightEqual = refl
sign_again signs.AndEqual = refl
sign_again signs.OrEqual = refl
sign_again signs.CaretEqual = refl
sign_again signs.PlusPlus = refl
sign_again signs.MinusMinus = refl
sign_again signs.Question = refl
sign_again signs.Colon = refl
sign_again signs.Comma = refl
sign_again signs.Semicolon = refl
sign_again signs.OpenParen = refl
sign_again signs.CloseParen = refl
sign_again signs.OpenBrace = refl
sign_again signs.CloseBrace = refl
sign_again signs.OpenBracket = refl
sign_again signs.CloseBracket = refl

some_is : {A : Type 0} {x y : A} → Some x ≡ Some y → x ≡ y
some_is h = cc

-- no spelling is that of two
pub one_word : (j k : Keyword) → word_spelling j ≡ word_spelling k → j ≡ k
one_word j k e = some_is (sym (word_again j) ∙ ap spelled_word e ∙ word_again k)

pub one_sign : (p q : Punct) → sign_spelling p ≡ sign_spelling q → p ≡ q
one_sign p q e = some_is (sym (sign_again p) ∙ ap spelled_sign e ∙ sign_again q)
