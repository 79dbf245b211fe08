-- A decimal number of any number of digits, and the word of 32 bits that it stands for.
use Rattle.std.specs.Prelude.{ℕ, ◌+◌, ◌-◌, ◌*◌, ◌%◌, ◌^◌, ◌==◌, ◌&&◌, not, nat_lt, nat_le, Bool, if◌then◌else◌, Option, Some, None, List, [], ◌∷◌, length}
use Rattle.std.specs.List.{fold, list_all}

abbrev pub is_digit : ℕ → Bool
is_digit b = nat_le 48 b && nat_le b 57

-- one digit or more, and nothing else
abbrev pub are_digits : List ℕ → Bool
are_digits bs = not (length bs == 0) && list_all is_digit bs

-- a number with one more digit behind it
abbrev pub with_digit : ℕ → ℕ → ℕ
with_digit n b = n * 10 + (b - 48)

-- the number that digits stand for
abbrev pub digits_value : List ℕ → ℕ
digits_value bs = fold with_digit 0 bs

-- a number without a sign, up to 4294967295
abbrev pub unsigned_value : List ℕ → Option ℕ
unsigned_value bs = if are_digits bs && nat_lt (digits_value bs) (2 ^ 32) then Some (digits_value bs) else None

-- the number behind a minus sign, down to -2147483648, modulo 2^32
abbrev pub negative_value : List ℕ → Option ℕ
negative_value bs = if are_digits bs && nat_le (digits_value bs) (2 ^ 31) then Some ((2 ^ 32 - digits_value bs) % 2 ^ 32) else None

-- the word of 32 bits that a piece of text stands for, where it is a number in range
abbrev pub value_of : List ℕ → Option ℕ
value_of [] = None
value_of (b ∷ bs) = if b == 45 then negative_value bs else unsigned_value (b ∷ bs)

-- a number word of a command line: 1 to 20 decimal digits and nothing else, up to a greatest number
abbrev pub number_up_to : ℕ → List ℕ → Option ℕ
number_up_to most bs = if (nat_le (length bs) 20 && are_digits bs) && nat_le (digits_value bs) most then Some (digits_value bs) else None
