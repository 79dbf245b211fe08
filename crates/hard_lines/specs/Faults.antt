-- A file of one fault: its line, the words of the line, and the change that they stand for. The form is the project's own.
use Rattle.std.specs.Prelude.{ℕ, ◌≡◌, ◌≤◌, ◌+◌, ◌-◌, ◌*◌, ◌%◌, ◌^◌, ◌==◌, ◌&&◌, ◌||◌, not, nat_lt, nat_le, Bool, false, if◌then◌else◌, Option, Some}
use Rattle.std.specs.Prelude.{None, Result, Ok, Err, List, [], ◌∷◌, length, filter, slice_get, codes}
use Rattle.std.specs.List.{fold, list_all, list_any, slice_split}
use Rattle.std.specs.Str.{bytes_eq}
use Rattle.std.specs.Io.BufRead.{ends_with_byte, strip_last}
use Rattle.hard_words.specs.declared.Change.{Change}
use Rattle.hard_words.specs.declared.ChangeKind.{ChangeKind}
use Rattle.hard_words.specs.declared.ChangeKind.TheVariants.{Flip, Divert, Set}
use Rattle.hard_words.specs.declared.SetPlace.{SetPlace}
use Rattle.hard_words.specs.declared.SetPlace.TheVariants.{Reg, Hi, Lo, Memory}
use Rattle.hard_lines.specs.declared.faults.FaultError.{FaultError}
use Rattle.hard_lines.specs.declared.faults.FaultError.TheVariants.{NotOneLine, BadWord, OutOfRange}
use Rattle.hard_lines.specs.declared.faults.Trouble.{Trouble}
use Rattle.hard_lines.specs.declared.faults.Trouble.TheVariants.{Form, Range}
use Rattle.hard_lines.specs.Numbers.{are_digits, digits_value, value_of}

-- ---- the line and its words

-- The text without one line end behind it, LF or CR LF.
abbrev pub line_of : List ℕ → List ℕ
line_of text = if ends_with_byte 10 text then strip_last 13 (strip_last 10 text) else text

-- A line feed or a carriage return.
abbrev pub is_line_byte : ℕ → Bool
is_line_byte b = (b == 10) || (b == 13)

-- A space or a tab.
abbrev pub is_gap : ℕ → Bool
is_gap b = (b == 32) || (b == 9)

-- A piece of a line that is a word: it has any bytes.
abbrev pub is_word : List ℕ → Bool
is_word piece = not (length piece == 0)

-- The words of a line, between spaces and tabs.
abbrev pub words : List ℕ → List (List ℕ)
words line = filter is_word (slice_split is_gap line)

-- The word of a number, counted from 1, if there are so many.
abbrev pub word_at : List ℕ → ℕ → Option (List ℕ)
word_at line n = slice_get (words line) (n - 1)

-- ---- what one word stands for, or its trouble: it is not of the form, or it is and out of range

-- A number within its limits.
abbrev pub within : (low high value : ℕ) → Result ℕ Trouble
within low high value = if nat_le low value && nat_le value high then Ok value else Err Range

-- 1 to 20 decimal digits.
abbrev pub is_number : List ℕ → Bool
is_number word = nat_le (length word) 20 && are_digits word

-- Such a number from a least one to a greatest one.
abbrev pub number_in : (low high : ℕ) → List ℕ → Result ℕ Trouble
number_in low high word = if is_number word then within low high (digits_value word) else Err Form

-- 0 to 9, a to f and A to F.
abbrev pub is_hex_digit : ℕ → Bool
is_hex_digit b = (nat_le 48 b && nat_le b 57) || ((nat_le 97 b && nat_le b 102) || (nat_le 65 b && nat_le b 70))

abbrev pub hex_digit_value : ℕ → ℕ
hex_digit_value b = if nat_le b 57 then b - 48 else if nat_le 97 b then b - 87 else b - 55

-- A number with one more hexadecimal digit behind it.
abbrev pub with_hex_digit : ℕ → ℕ → ℕ
with_hex_digit n b = n * 16 + hex_digit_value b

abbrev pub hex_value : List ℕ → ℕ
hex_value digits = fold with_hex_digit 0 digits

-- 1 to 8 hexadecimal digits.
abbrev pub are_hex_digits : List ℕ → Bool
are_hex_digits digits = (nat_le 1 (length digits) && nat_le (length digits) 8) && list_all is_hex_digit digits

-- The number of `0x` and 1 to 8 hexadecimal digits.
abbrev pub hex_of : List ℕ → Option ℕ
hex_of (a ∷ b ∷ digits) = if ((a == 48) && (b == 120)) && are_hex_digits digits then Some (hex_value digits) else None
hex_of _ = None

-- An address: hexadecimal, or else decimal up to 4294967295.
abbrev pub address_or : Option ℕ → List ℕ → Result ℕ Trouble
address_or (Some value) word = Ok value
address_or None word = number_in 0 (2 ^ 32 - 1) word

abbrev pub address_of : List ℕ → Result ℕ Trouble
address_of word = address_or (hex_of word) word

-- A decimal number with a minus sign before it or not.
abbrev pub is_signed : List ℕ → Bool
is_signed [] = false
is_signed (b ∷ bs) = if b == 45 then is_number bs else is_number (b ∷ bs)

abbrev pub in_range : {X : Type 0} → Option X → Result X Trouble
in_range None = Err Range
in_range (Some value) = Ok value

-- A word of 32 bits: hexadecimal, or else decimal from -2147483648 to 4294967295.
abbrev pub value_or : Option ℕ → List ℕ → Result ℕ Trouble
value_or (Some value) word = Ok value
value_or None word = if is_signed word then in_range (value_of word) else Err Form

abbrev pub new_word_of : List ℕ → Result ℕ Trouble
new_word_of word = value_or (hex_of word) word

-- The register of 1 or 2 decimal digits, from 1 to 31.
abbrev pub register_of : List ℕ → Result SetPlace Trouble
register_of digits =
    if nat_le (length digits) 2 && are_digits digits then
    (if nat_le 1 (digits_value digits) && nat_le (digits_value digits) 31 then Ok (Reg (digits_value digits)) else Err Range)
    else Err Form

-- The word of memory at an address that is a multiple of 4.
abbrev pub memory_of : Option ℕ → Result SetPlace Trouble
memory_of None = Err Form
memory_of (Some address) = if address % 4 == 0 then Ok (Memory address) else Err Range

-- A place: `$` and a register, `hi`, `lo`, or a hexadecimal address.
abbrev pub place_of : List ℕ → Result SetPlace Trouble
place_of [] = Err Form
place_of (b ∷ bs) =
    if b == 36 then register_of bs
    else if bytes_eq (b ∷ bs) (codes "hi") then Ok Hi
    else if bytes_eq (b ∷ bs) (codes "lo") then Ok Lo
    else memory_of (hex_of (b ∷ bs))

-- ---- the change

-- What a word of a number stands for; a trouble is told with that number.
abbrev pub named : {X : Type 0} → ℕ → Result X Trouble → Result X FaultError
named n (Ok value) = Ok value
named n (Err Form) = Err (BadWord n)
named n (Err Range) = Err (OutOfRange n)

-- A word that is missing is not of the form.
abbrev pub read_by : {X : Type 0} → ℕ → (List ℕ → Result X Trouble) → Option (List ℕ) → Result X FaultError
read_by n read None = Err (BadWord n)
read_by n read (Some word) = named n (read word)

abbrev pub read_at : {X : Type 0} → List ℕ → ℕ → (List ℕ → Result X Trouble) → Result X FaultError
read_at line n read = read_by n read (word_at line n)

-- The step of a change, its register and its bit.
abbrev pub number_at : (line : List ℕ) (n low high : ℕ) → Result ℕ FaultError
number_at line n low high = read_at line n (number_in low high)

abbrev pub step_at : List ℕ → Result ℕ FaultError
step_at line = number_at line 2 0 10000000

-- No word stands behind the last one.
abbrev pub nothing_more : ℕ → Option (List ℕ) → Change → Result Change FaultError
nothing_more n None change = Ok change
nothing_more n (Some word) change = Err (BadWord n)

abbrev pub last_before : List ℕ → ℕ → Change → Result Change FaultError
last_before line n change = nothing_more n (word_at line n) change

-- What follows a word that was read; the first bad word decides.
abbrev pub after : {X Y : Type 0} → Result X FaultError → (X → Result Y FaultError) → Result Y FaultError
after (Err e) next = Err e
after (Ok value) next = next value

-- `flip STEP REG BIT`
abbrev pub flip_of : List ℕ → Result Change FaultError
flip_of line =
    after (step_at line) (λ step. after (number_at line 3 1 31) (λ reg. after (number_at line 4 0 31) (λ bit.
    last_before line 5 (record { step = step; kind = Flip reg bit }))))

-- `divert STEP ADDRESS`
abbrev pub divert_of : List ℕ → Result Change FaultError
divert_of line =
    after (step_at line) (λ step. after (read_at line 3 address_of) (λ to.
    last_before line 4 (record { step = step; kind = Divert to })))

-- `set STEP PLACE WORD`
abbrev pub set_of : List ℕ → Result Change FaultError
set_of line =
    after (step_at line) (λ step. after (read_at line 3 place_of) (λ place. after (read_at line 4 new_word_of) (λ word.
    last_before line 5 (record { step = step; kind = Set place word }))))

-- The first word says which of the three forms the line has.
abbrev pub change_by : Option (List ℕ) → List ℕ → Result Change FaultError
change_by None line = Err (BadWord 1)
change_by (Some word) line =
    if bytes_eq word (codes "flip") then flip_of line
    else if bytes_eq word (codes "divert") then divert_of line
    else if bytes_eq word (codes "set") then set_of line
    else Err (BadWord 1)

-- What a line stands for that has no line end in it.
abbrev pub change_of : List ℕ → Result Change FaultError
change_of line = if list_any is_line_byte line then Err NotOneLine else change_by (word_at line 1) line

-- What a file of one fault stands for: a change, or the first thing that is wrong.
abbrev pub fault_of : List ℕ → Result Change FaultError
fault_of text = change_of (line_of text)

-- A register from 1 to 31 in a place; an address of a word.
abbrev pub IsPlaceInBounds : SetPlace → Type 0
IsPlaceInBounds (Reg r) = (1 ≤ r) × (r ≤ 31)
IsPlaceInBounds Hi = Unit {0}
IsPlaceInBounds Lo = Unit {0}
IsPlaceInBounds (Memory a) = a % 4 ≡ 0

-- The step, the register and the bit of a change are in their bounds.
abbrev pub IsKindInBounds : ChangeKind → Type 0
IsKindInBounds (Flip r bit) = (1 ≤ r) × (r ≤ 31) × (bit ≤ 31)
IsKindInBounds (Divert to) = Unit {0}
IsKindInBounds (Set place word) = IsPlaceInBounds place

abbrev pub IsInBounds : Change → Type 0
IsInBounds change = (change.step ≤ 10000000) × IsKindInBounds change.kind
