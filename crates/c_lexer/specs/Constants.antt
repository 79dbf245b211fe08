-- Integer constants (ISO/IEC 9899 clause 6.4.4.1, with no suffix but u and U, and with int and unsigned as the types).
use Rattle.std.specs.Prelude.{ℕ, ◌≡◌, ◌≢◌, ◌≤◌, ◌<◌, ◌+◌, ◌-◌, ◌*◌, ◌&&◌, ◌||◌, ◌==◌, ◌⊎◌, List, [], ◌∷◌, ◌++◌, Bool, true, false, length, drop, fold}
use Rattle.std.specs.Prelude.{slice_index, nat_le, nat_lt, if◌then◌else◌}
use Rattle.c_lexer.specs.declared.constant.Base.{Base}
use Rattle.c_lexer.specs.declared.constant.Constant.{Constant}
use Rattle.c_lexer.specs.declared.constant.Constant.TheVariants.{NotOne, TooLarge, Fits}
use Rattle.c_lexer.specs.declared.constant.Base.TheVariants.{Decimal, Octal, Hexadecimal}

-- the number of digits that a base has
abbrev pub radix : Base → ℕ
radix Decimal = 10
radix Octal = 8
radix Hexadecimal = 16

-- what a digit is worth, and 16 where the byte is a digit in no base
abbrev pub digit_worth : ℕ → ℕ
digit_worth b =
    if nat_le 48 b && nat_le b 57 then b - 48 else (if nat_le 97 b && nat_le b 102 then b - 87 else (if nat_le 65 b && nat_le b 70 then b - 55 else 16))

-- each byte is a digit of the base
abbrev pub AreDigits : ℕ → List ℕ → Type 0
AreDigits base [] = Unit {0}
AreDigits base (b ∷ bs) = (digit_worth b < base) × AreDigits base bs

-- what digits are worth together
abbrev pub worth : ℕ → List ℕ → ℕ
worth base digits = fold (λ n b. base * n + digit_worth b) 0 digits

-- whether bytes are a suffix: nothing, or one `u` or `U`
abbrev pub is_suffix : List ℕ → Bool
is_suffix [] = true
is_suffix (b ∷ []) = b == 117 || b == 85
is_suffix (b ∷ c ∷ bs) = false

-- how a constant of a base begins: hexadecimal with `0x` or `0X`, octal with `0`, decimal with no `0`
abbrev pub HasMark : Base → List ℕ → Type 0
HasMark Decimal run = slice_index run 0 ≢ 48
HasMark Octal run = slice_index run 0 ≡ 48
HasMark Hexadecimal run = (slice_index run 0 ≡ 48) × ((slice_index run 1 ≡ 120) ⊎ (slice_index run 1 ≡ 88))

-- where the digits begin
abbrev pub behind_mark : Base → List ℕ → List ℕ
behind_mark Decimal run = run
behind_mark Octal run = run
behind_mark Hexadecimal run = drop 2 run

-- digits of a base, one at least, and then a suffix
pub record IsSplit (base : Base) (text digits suffix : List ℕ) : Type 0 where
  pub joined : text ≡ digits ++ suffix
  pub some : 0 < length digits
  pub are_digits : AreDigits (radix base) digits
  pub ends : is_suffix suffix ≡ true

-- the bytes are a constant of this base with these digits and this suffix
pub record IsConstant (run : List ℕ) (base : Base) (digits suffix : List ℕ) : Type 0 where
  pub mark : HasMark base run
  pub split : IsSplit base (behind_mark base run) digits suffix

-- the greatest value that a constant of this base and suffix may have: that of int where it is decimal and has none, else that of unsigned
abbrev pub greatest : Base → List ℕ → ℕ
greatest Decimal [] = 2147483647
greatest Decimal (u ∷ us) = 4294967295
greatest Octal suffix = 4294967295
greatest Hexadecimal suffix = 4294967295

-- whether a constant of this suffix and value is unsigned
abbrev pub is_unsigned : List ℕ → ℕ → Bool
is_unsigned [] value = nat_lt 2147483647 value
is_unsigned (u ∷ us) value = true

-- a constant of this base, digits and suffix has this value, which is in range
pub record HasValue (base : Base) (digits suffix : List ℕ) (value : ℕ) (unsigned : Bool) : Type 0 where
  pub worth_is : worth (radix base) digits ≡ value
  pub fits : value ≤ greatest base suffix
  pub unsigned_is : unsigned ≡ is_unsigned suffix value

-- what a function says of a text that is split into digits and suffix in a given way, if in any
abbrev pub Reads : (List ℕ → List ℕ → Base → Type 0) → Constant → Type 0
Reads Splits NotOne = (base : Base) (digits suffix : List ℕ) → Splits digits suffix base → ⊥
Reads Splits TooLarge = (base : Base) × (digits : List ℕ) × (suffix : List ℕ) × Splits digits suffix base × (greatest base suffix < worth (radix base) digits)
Reads Splits (Fits value unsigned) = (base : Base) × (digits : List ℕ) × (suffix : List ℕ) × Splits digits suffix base ×
    HasValue base digits suffix value unsigned
