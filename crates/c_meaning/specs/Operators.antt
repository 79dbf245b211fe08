-- The operators of ISO/IEC 9899:1999 on words of 32 bits with their types. Where the standard leaves a result undefined or to the
-- implementation, the choice is written at the definition. Words are below 2^32.
use Rattle.std.specs.Prelude.{ℕ, ◌+◌, ◌-◌, ◌*◌, ◌/◌, ◌%◌, ◌^◌, Bool, true, false, not, ◌||◌, ◌&&◌, if◌then◌else◌, ◌==◌, nat_lt, int_lt, int_div, int_rem}
use Rattle.std.specs.Prelude.{bit_and, bit_or, bit_xor, Result, Ok, Err}
use Rattle.std.specs.Int.{cast_unsigned, w32}
use Rattle.hard_words.specs.Words.{signed, signed_shift}
use Rattle.c_syntax.specs.declared.tree.Ty.{Ty}
use Rattle.c_syntax.specs.declared.tree.Ty.TheVariants.{Int, Unsigned, Void}
use Rattle.c_syntax.specs.declared.tree.UnaryOp.{UnaryOp}
use Rattle.c_syntax.specs.declared.tree.UnaryOp.TheVariants.{Minus, Plus, Flip, Not}
use Rattle.c_syntax.specs.declared.tree.BinaryOp.{BinaryOp}
use Rattle.c_syntax.specs.declared.tree.BinaryOp.TheVariants.{Mul, Div, Rem, Add, Sub, Shl, Shr, Lt, Gt, Le, Ge, Eq, Ne, And, Xor, Or}
use Rattle.c_meaning.specs.declared.run.Value.{Value}
use Rattle.c_meaning.specs.declared.run.EvalEnd.{EvalEnd}
use Rattle.c_meaning.specs.declared.run.EvalEnd.TheVariants.{Trapped}

-- a word with its type
abbrev pub value : ℕ → Bool → Value
value word is_unsigned = record { word = word; is_unsigned = is_unsigned }

-- whether values of a type are unsigned
abbrev pub is_unsigned_type : Ty → Bool
is_unsigned_type Unsigned = true
is_unsigned_type Int = false
is_unsigned_type Void = false

-- 6.3.1.3: a value converted to a type; the word stays, and only what it stands for changes
abbrev pub converted : Bool → Value → Value
converted is_unsigned v = value v.word is_unsigned

-- 6.5.8, 6.5.9: what holds is 1 and what doesn't is 0, as int
abbrev pub truth : Bool → Value
truth holds = value (if holds then 1 else 0) false

-- whether a value compares equal to 0
abbrev pub is_zero : Value → Bool
is_zero v = v.word == 0

-- 6.3.1.8: of two operands, where one is unsigned their common type is unsigned
abbrev pub common : Bool → Bool → Bool
common a b = a || b

-- 6.5.5: the quotient truncates toward zero; a zero divisor is trap 7, and -2147483648 / -1, which no int holds, trap 6
abbrev pub quotient : Bool → ℕ → ℕ → Result ℕ EvalEnd
quotient true x y = if y == 0 then Err (Trapped 7) else Ok (x / y)
quotient false x y =
    if y == 0 then Err (Trapped 7)
    else (if x == 2 ^ 31 && y == 2 ^ 32 - 1 then Err (Trapped 6)
    else Ok (cast_unsigned w32 (int_div (signed x) (signed y))))

-- 6.5.5: the remainder has the sign of the dividend, and traps where the quotient does
abbrev pub remainder : Bool → ℕ → ℕ → Result ℕ EvalEnd
remainder true x y = if y == 0 then Err (Trapped 7) else Ok (x % y)
remainder false x y =
    if y == 0 then Err (Trapped 7)
    else (if x == 2 ^ 31 && y == 2 ^ 32 - 1 then Err (Trapped 6)
    else Ok (cast_unsigned w32 (int_rem (signed x) (signed y))))

-- 6.5.7: a shift to the right copies the sign where the type is int
abbrev pub shifted_right : Bool → ℕ → ℕ → ℕ
shifted_right true x count = x / 2 ^ (count % 32)
shifted_right false x count = signed_shift x count

-- 6.5.8: whether x is below y
abbrev pub less : Bool → ℕ → ℕ → Bool
less true x y = nat_lt x y
less false x y = int_lt (signed x) (signed y)

-- a result, or a trap, at a type
abbrev pub at_type : Bool → Result ℕ EvalEnd → Result Value EvalEnd
at_type is_unsigned (Ok word) = Ok (value word is_unsigned)
at_type is_unsigned (Err end) = Err end

-- the type of a binary operator's result, from those of its operands: int for a comparison (6.5.8, 6.5.9), the left one's for a shift
-- (6.5.7), else the common type
abbrev pub binary_type : BinaryOp → Bool → Bool → Bool
binary_type Mul a b = common a b
binary_type Div a b = common a b
binary_type Rem a b = common a b
binary_type Add a b = common a b
binary_type Sub a b = common a b
binary_type Shl a b = a
binary_type Shr a b = a
binary_type Lt a b = false
binary_type Gt a b = false
binary_type Le a b = false
binary_type Ge a b = false
binary_type Eq a b = false
binary_type Ne a b = false
binary_type And a b = common a b
binary_type Xor a b = common a b
binary_type Or a b = common a b

-- 6.5.5 to 6.5.12: the operator on two words of a common type (for a shift, of the left operand's); sums, differences and products wrap
-- at both types, and of a shift's count the low five bits are taken
abbrev pub binary_word : BinaryOp → Bool → ℕ → ℕ → Result ℕ EvalEnd
binary_word Mul is_unsigned x y = Ok ((x * y) % 2 ^ 32)
binary_word Div is_unsigned x y = quotient is_unsigned x y
binary_word Rem is_unsigned x y = remainder is_unsigned x y
binary_word Add is_unsigned x y = Ok ((x + y) % 2 ^ 32)
binary_word Sub is_unsigned x y = Ok ((x + (2 ^ 32 - y)) % 2 ^ 32)
binary_word Shl is_unsigned x y = Ok ((x * 2 ^ (y % 32)) % 2 ^ 32)
binary_word Shr is_unsigned x y = Ok (shifted_right is_unsigned x y)
binary_word Lt is_unsigned x y = Ok (truth (less is_unsigned x y)).word
binary_word Gt is_unsigned x y = Ok (truth (less is_unsigned y x)).word
binary_word Le is_unsigned x y = Ok (truth (not (less is_unsigned y x))).word
binary_word Ge is_unsigned x y = Ok (truth (not (less is_unsigned x y))).word
binary_word Eq is_unsigned x y = Ok (truth (x == y)).word
binary_word Ne is_unsigned x y = Ok (truth (not (x == y))).word
binary_word And is_unsigned x y = Ok (bit_and x y)
binary_word Xor is_unsigned x y = Ok (bit_xor x y)
binary_word Or is_unsigned x y = Ok (bit_or x y)

-- the type at which a binary operator takes its operands
abbrev pub operand_type : BinaryOp → Bool → Bool → Bool
operand_type Shl a b = a
operand_type Shr a b = a
operand_type op a b = common a b

-- the operator on two values: a value, or a trap
abbrev pub operate : BinaryOp → Value → Value → Result Value EvalEnd
operate op x y = at_type (binary_type op x.is_unsigned y.is_unsigned) (binary_word op (operand_type op x.is_unsigned y.is_unsigned) x.word y.word)

-- 6.5.3.3: the type of a unary operator's result is its operand's, and int for `!`
abbrev pub unary_type : UnaryOp → Bool → Bool
unary_type Minus a = a
unary_type Plus a = a
unary_type Flip a = a
unary_type Not a = false

-- 6.5.3.3: the operator on a word; the negative wraps
abbrev pub unary_word : UnaryOp → ℕ → ℕ
unary_word Minus x = (2 ^ 32 - x) % 2 ^ 32
unary_word Plus x = x
unary_word Flip x = 2 ^ 32 - 1 - x
unary_word Not x = (truth (x == 0)).word

-- the operator on a value
abbrev pub operate_unary : UnaryOp → Value → Value
operate_unary op v = value (unary_word op v.word) (unary_type op v.is_unsigned)

-- 6.5.2.4, 6.5.3.1: one more or one less, which wraps
abbrev pub bumped : Bool → ℕ → ℕ
bumped true word = (word + 1) % 2 ^ 32
bumped false word = (word + (2 ^ 32 - 1)) % 2 ^ 32
