-- Bytes, as ISO/IEC 9899 clause 5.2.1 sorts the source character set.
use Rattle.std.specs.Prelude.{ℕ, Bool, true, false, ◌&&◌, ◌||◌, ◌==◌, nat_le, if◌then◌else◌}
use Rattle.c_lexer.specs.declared.byte.Class.{Class}
use Rattle.c_lexer.specs.declared.byte.Class.TheVariants.{Blank, Letter, Digit, Other}

-- a space, or one of tab, line feed, vertical tab, form feed and carriage return
abbrev pub is_blank : ℕ → Bool
is_blank b = b == 32 || (nat_le 9 b && nat_le b 13)

-- `_`, or an upper-case or lower-case letter
abbrev pub is_letter : ℕ → Bool
is_letter b = b == 95 || (nat_le 65 b && nat_le b 90) || (nat_le 97 b && nat_le b 122)

-- one of 0 to 9
abbrev pub is_digit : ℕ → Bool
is_digit b = nat_le 48 b && nat_le b 57

-- which of these a byte is; no byte is two of them
abbrev pub class_of : ℕ → Class
class_of b = if is_blank b then Blank else (if is_letter b then Letter else (if is_digit b then Digit else Other))

-- whether a byte of this class goes on with a name or a number
abbrev pub continues : Class → Bool
continues Blank = false
continues Letter = true
continues Digit = true
continues Other = false

-- a space or a tab
abbrev pub is_space : ℕ → Bool
is_space b = b == 32 || b == 9

-- whether only spaces and tabs stand on the line before the place after a blank, if so before it
abbrev pub line_after : Bool → ℕ → Bool
line_after starts_line b = if b == 10 then true else (if is_space b then starts_line else false)
