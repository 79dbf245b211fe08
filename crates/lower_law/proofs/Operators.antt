-- The operators of C beside the operations that they are lowered to.
use Rattle.std.proofs.Common.{◌≡◌, ℕ, zero, suc, ◌+◌, ◌-◌, ◌*◌, ◌/◌, ◌%◌, ◌^◌, ◌<◌, Bool, true, false, not, ◌&&◌, Result, Ok, Err, refl, sym, ap, subst, if◌then◌else◌, ◌==◌, arith, ℤ, pos, negsuc, neg_ℤ}
use Rattle.std.specs.Prelude.{nat_lt, int_lt, int_div, int_rem, bit_and, bit_or, bit_xor}
use Rattle.std.specs.Int.{cast_unsigned, w32}
use Rattle.std.specs.Int.Bits.{and_lt}
use Rattle.std.proofs.lemmas.Nat.{or_lt, xor_lt}
use Rattle.std.proofs.Math.Nat.{div-le_self, mod-le}
use Rattle.std.proofs.lemmas.Bool.{ltb-false, false≢true}
use Rattle.hard_words.specs.Words.{signed, signed_shift}
use Rattle.c_meaning.specs.declared.run.EvalEnd.{EvalEnd}
use Rattle.c_meaning.specs.declared.run.EvalEnd.TheVariants.{Trapped}
use Rattle.c_syntax.specs.declared.tree.BinaryOp.{BinaryOp}
use Rattle.c_syntax.specs.declared.tree.BinaryOp.TheVariants as c
use Rattle.c_meaning.specs.Operators.{truth, less, binary_word}
use Rattle.mid_blocks.specs.declared.code.MidOp.{MidOp}
use Rattle.mid_blocks.specs.declared.code.MidOp.TheVariants as mid
use Rattle.mid_blocks.specs.Run.{operate, with_sign, by_non_zero, truth as truth_word}
use Rattle.lower_rules.specs.Expressions.{operation}
use Rattle.hard_words.proofs.Shifts.{signed_shift_small}

-- ---- results are words

truth_small : (b : Bool) → truth_word b < 2 ^ 32
truth_small true = omega arith
truth_small false = omega arith

neg_small : (n : ℕ) → cast_unsigned w32 (neg_ℤ (pos n)) < 2 ^ 32
neg_small zero = omega arith
neg_small (suc n) = omega arith

abbrev Magnitude : ℤ → Type 0
Magnitude (pos n) = n < 2 ^ 32
Magnitude (negsuc n) = suc n < 2 ^ 32

signed_magnitude : (x : ℕ) → x < 2 ^ 32 → Magnitude (signed x)
signed_magnitude x lt = by (nat_lt x (2 ^ 31)) refl
  where
    by : (b : Bool) → nat_lt x (2 ^ 31) ≡ b → Magnitude (signed x)
    by true is = subst (λ z. Magnitude z) (sym (ap (λ (b : Bool). if b then pos x else negsuc (2 ^ 32 - suc x)) is)) lt
    by false is = let le = ltb-false x (2 ^ 31) is in subst (λ z. Magnitude z) (sym (ap (λ (b : Bool). if b then pos x else negsuc (2 ^ 32 - suc x)) is)) (omega (arith, le))

quotient_small : (a b : ℤ) → Magnitude a → cast_unsigned w32 (int_div a b) < 2 ^ 32
quotient_small (pos a) (pos b) m = omega (arith, m, div-le_self a b)
quotient_small (pos a) (negsuc b) m = neg_small (a / suc b)
quotient_small (negsuc a) (pos b) m = neg_small (suc a / b)
quotient_small (negsuc a) (negsuc b) m = omega (arith, m, div-le_self (suc a) (suc b))

remainder_small : (a b : ℤ) → Magnitude a → cast_unsigned w32 (int_rem a b) < 2 ^ 32
remainder_small (pos a) (pos b) m = omega (arith, m, mod-le a b)
remainder_small (pos a) (negsuc b) m = omega (arith, m, mod-le a (suc b))
remainder_small (negsuc a) (pos b) m = neg_small (suc a % b)
remainder_small (negsuc a) (negsuc b) m = neg_small (suc a % suc b)

by_non_zero_small : (y r w : ℕ) → r < 2 ^ 32 → by_non_zero y r ≡ Ok w → w < 2 ^ 32
by_non_zero_small y r w lt h = by (y == 0) h
  where
    by : (b : Bool) → (let x : Result ℕ ℕ = if b then Err 7 else Ok r in x) ≡ Ok w → w < 2 ^ 32
    by true h' = cc
    by false h' = let e : r ≡ w = cc in subst (λ z. z < 2 ^ 32) e lt

with_sign_small : (x y r w : ℕ) → r < 2 ^ 32 → with_sign x y r ≡ Ok w → w < 2 ^ 32
with_sign_small x y r w lt h = by (y == 0) (x == 2 ^ 31 && y == 2 ^ 32 - 1) h
  where
    by : (b b' : Bool) → (let x : Result ℕ ℕ = if b then Err 7 else (if b' then Err 6 else Ok r) in x) ≡ Ok w → w < 2 ^ 32
    by true b' h' = cc
    by false true h' = cc
    by false false h' = let e : r ≡ w = cc in subst (λ z. z < 2 ^ 32) e lt

ok_small : (r w : ℕ) → r < 2 ^ 32 → (let x : Result ℕ ℕ = Ok r in x) ≡ Ok w → w < 2 ^ 32
ok_small r w lt h = let e : r ≡ w = cc in subst (λ z. z < 2 ^ 32) e lt

pub operate_small : (op : MidOp) (x y w : ℕ) → x < 2 ^ 32 → y < 2 ^ 32 → operate op x y ≡ Ok w → w < 2 ^ 32
operate_small mid.Add x y w lx ly h = ok_small ((x + y) % 2 ^ 32) w (omega arith) h
operate_small mid.Sub x y w lx ly h = ok_small ((x + (2 ^ 32 - y)) % 2 ^ 32) w (omega arith) h
operate_small mid.Mul x y w lx ly h = ok_small ((x * y) % 2 ^ 32) w (omega arith) h
operate_small mid.Div x y w lx ly h = with_sign_small x y (cast_unsigned w32 (int_div (signed x) (signed y))) w (quotient_small (signed x) (signed y) (signed_magnitude x lx)) h
operate_small mid.DivU x y w lx ly h = by_non_zero_small y (x / y) w (omega (arith, lx, div-le_self x y)) h
operate_small mid.Rem x y w lx ly h = with_sign_small x y (cast_unsigned w32 (int_rem (signed x) (signed y))) w (remainder_small (signed x) (signed y) (signed_magnitude x lx)) h
operate_small mid.RemU x y w lx ly h = by_non_zero_small y (x % y) w (omega (arith, lx, mod-le x y)) h
operate_small mid.Shl x y w lx ly h = ok_small ((x * 2 ^ (y % 32)) % 2 ^ 32) w (omega arith) h
operate_small mid.Shr x y w lx ly h = ok_small (x / 2 ^ (y % 32)) w (omega (arith, lx, div-le_self x (2 ^ (y % 32)))) h
operate_small mid.Sar x y w lx ly h = ok_small (signed_shift x y) w (signed_shift_small x y lx) h
operate_small mid.And x y w lx ly h = ok_small (bit_and x y) w (and_lt 32 x y lx ly) h
operate_small mid.Or x y w lx ly h = ok_small (bit_or x y) w (or_lt 32 x y lx ly) h
operate_small mid.Xor x y w lx ly h = ok_small (bit_xor x y) w (xor_lt 32 x y lx ly) h
operate_small mid.Lt x y w lx ly h = ok_small (truth_word (int_lt (signed x) (signed y))) w (truth_small (int_lt (signed x) (signed y))) h
operate_small mid.LtU x y w lx ly h = ok_small (truth_word (nat_lt x y)) w (truth_small (nat_lt x y)) h
operate_small mid.Eq x y w lx ly h = ok_small (truth_word (x == y)) w (truth_small (x == y)) h
operate_small mid.Ne x y w lx ly h = ok_small (truth_word (not (x == y))) w (truth_small (not (x == y))) h

-- ---- the operators that are one operation

-- a result, or a trap as an end
abbrev pub as_end : Result ℕ ℕ → Result ℕ EvalEnd
as_end (Ok w) = Ok w
as_end (Err trap) = Err (Trapped trap)

non_zero_end : (y r : ℕ) → (if y == 0 then Err (Trapped 7) else Ok r) ≡ as_end (by_non_zero y r)
non_zero_end y r = by (y == 0)
  where
    by : (b : Bool) → (let x : Result ℕ EvalEnd = if b then Err (Trapped 7) else Ok r in x) ≡ as_end (if b then Err 7 else Ok r)
    by true = refl
    by false = refl

with_sign_end : (x y r : ℕ) → (if y == 0 then Err (Trapped 7) else (if x == 2 ^ 31 && y == 2 ^ 32 - 1 then Err (Trapped 6) else Ok r)) ≡ as_end (with_sign x y r)
with_sign_end x y r = by (y == 0) (x == 2 ^ 31 && y == 2 ^ 32 - 1)
  where
    by : (b b' : Bool) → (let x : Result ℕ EvalEnd = if b then Err (Trapped 7) else (if b' then Err (Trapped 6) else Ok r) in x) ≡ as_end (if b then Err 7 else (if b' then Err 6 else Ok r))
    by true b' = refl
    by false true = refl
    by false false = refl

-- whether it is lowered to one operation on its operands in order
abbrev pub is_direct : BinaryOp → Bool
is_direct c.Gt = false
is_direct c.Le = false
is_direct c.Ge = false
is_direct _ = true

pub direct_word : (op : BinaryOp) (u : Bool) (x y : ℕ) → is_direct op ≡ true → binary_word op u x y ≡ as_end (operate (operation op u) x y)
direct_word c.Mul u x y d = refl
direct_word c.Div true x y d = non_zero_end y (x / y)
direct_word c.Div false x y d = with_sign_end x y (cast_unsigned w32 (int_div (signed x) (signed y)))
direct_word c.Rem true x y d = non_zero_end y (x % y)
direct_word c.Rem false x y d = with_sign_end x y (cast_unsigned w32 (int_rem (signed x) (signed y)))
direct_word c.Add u x y d = refl
direct_word c.Sub u x y d = refl
direct_word c.Shl u x y d = refl
direct_word c.Shr true x y d = refl
direct_word c.Shr false x y d = refl
direct_word c.Lt true x y d = refl
direct_word c.Lt false x y d = refl
direct_word c.Gt u x y d = absurd (false≢true d)
direct_word c.Le u x y d = absurd (false≢true d)
direct_word c.Ge u x y d = absurd (false≢true d)
direct_word c.Eq u x y d = refl
direct_word c.Ne u x y d = refl
direct_word c.And u x y d = refl
direct_word c.Xor u x y d = refl
direct_word c.Or u x y d = refl

-- the comparison that `<`, `>`, `<=` and `>=` are lowered to
pub compared : (op : BinaryOp) (u : Bool) (x y : ℕ) → operation op u ≡ (if u then mid.LtU else mid.Lt) → operate (operation op u) x y ≡ Ok (truth_word (less u x y))
compared op true x y e = ap (λ o. operate o x y) e
compared op false x y e = ap (λ o. operate o x y) e

-- turned round by a comparison with 0
pub turned_round : (b : Bool) → truth_word (truth_word b == 0) ≡ (truth (not b)).word
turned_round true = refl
turned_round false = refl
